-- `line::cell::store_field` meets its contract: a store in the line's part is a store in the row.
use borrow.Author.Rules.{rules}
use Rattle.line.proofs.Part.{field_stored}
use Rattle.line.proofs.cell.store_field.Goals as goal

pub returns : goal.returns
returns c = search (rules, field_stored)
