use Prim.Native.Nat.{ℕ}
use mathlib.Core.Path.{subst}
use mathlib.Core.List.{List, [], flatten}
use native.Mathlib.Omega.{arith}
use Rattle.text.specs.Writing.{Put}
use Rattle.text.proofs.Writing.{put-none, and_then}
use Rattle.board.specs.Page.{cell_text}
use Rattle.page.proofs.Texts.{lines_more}
use Rattle.page.proofs.lines.put_cells.Goals as goal

none : (row : List ℕ) → Put row 68 (flatten []) row 68
unfolding flatten
none row = record { ends = omega arith; holds = put-none row 68 }

pub loop-cell-init : goal.loop-cell-init
loop-cell-init c = (omega arith, none _)

pub loop-cell-preserved : goal.loop-cell-preserved
loop-cell-preserved c =
    let a = c.args in
    let l = c.loop-cell in
    let put = c.put_cell-end in (
      omega (arith, put.ensures.1, l.invariant.0),
      subst (λ (t : List ℕ). Put a.text.now 68 t put.new.text put.result) (lines_more (cell_text a.cache.now) a.cells.now l.cell-index (omega arith))
          (and_then l.invariant.1 put.ensures.0 (omega (arith, c.requires.1, l.invariant.0))),
    )
