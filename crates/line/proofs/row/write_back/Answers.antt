-- `line::row::write_back` meets its contract: the part that was lent comes back with the cache's eight words.
use borrow.Author.Rules.{rules}
use Rattle.line.proofs.Part.{line-filled}
use Rattle.line.proofs.row.write_back.Goals as goal

pub returns : goal.returns
returns c = search (rules, line-filled)
