-- `line::cell::cell_field` meets its contract: a word of the line's part is the row's word there.
use borrow.Author.Rules.{rules}
use Rattle.line.proofs.Part.{field-read}
use Rattle.line.proofs.cell.cell_field.Goals as goal

pub returns : goal.returns
returns c = search (rules, field-read)
