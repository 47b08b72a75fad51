-- `line::cell::cell_field_or_zero` meets its contract: the place that is read is the field's.
use Rattle.std.proofs.Common.{rules, ◌≡◌, ◌∙◌, ◌+◌, ◌*◌, ℕ, get_or, ap, arith}
use Rattle.line.specs.Cell.{field_index, field_of}
use Rattle.line.proofs.cell.cell_field_or_zero.Goals as goal

pub returns : goal.returns
unfolding field_of field_index
returns c =
    let row = c.args.row.now in
    let at = 8 * c.cell_line.result + c.word.result in
    let read : c.unwrap_or.result ≡ get_or row at 0 = search rules in
    let place : at ≡ field_index c.args.cell c.args.field = omega (arith, c.cell_line.ensures, c.word.ensures.0) in
    read ∙ ap (λ (i : ℕ). get_or row i 0) place
