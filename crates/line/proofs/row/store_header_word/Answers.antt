-- `line::row::store_header_word` meets its contract: a store in line 0's part is a store in the row.
use borrow.Author.Rules.{rules}
use Rattle.line.proofs.Part.{header-stored}
use Rattle.line.proofs.row.store_header_word.Goals as goal

pub returns : goal.returns
returns c = search (rules, header-stored)
