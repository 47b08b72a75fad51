-- `page::lines::put_cell` meets its contract: the numbers are the cell's.
use Prim.Native.Nat.{ℕ}
use mathlib.Core.Path.{◌≡◌, subst}
use mathlib.Core.List.{List}
use Rattle.text.specs.Numbers.{number_text}
use Rattle.text.specs.Writing.{Put}
use Rattle.board.specs.Page.{line_text}
use Rattle.page.proofs.lines.put_cell.Goals as goal

pub returns : goal.returns
returns c =
    let put = c.put_line in
    let numbers : _ ≡ _ =
    (λ k. line_text (number_text c.args.cell) (number_text (c.cell_field-record.ensures k)) (number_text (c.cell_field-backup.ensures k)) (number_text (c.cell_field-mark.ensures k))) in
    (subst (λ (t : List ℕ). Put c.args.text.now c.args.at t put.new.text put.result) numbers put.ensures.0, put.ensures.1)
