-- `line::row::header_word` meets its contract: a word of line 0's part is the row's word there.
use borrow.Author.Rules.{rules}
use Rattle.line.proofs.Part.{header_read}
use Rattle.line.proofs.row.header_word.Goals as goal

pub returns : goal.returns
returns c = search (rules, header_read)
