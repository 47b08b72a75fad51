-- `page::lines::put_blank_line` meets its contract: the bytes are those of a line of empty texts.
use Rattle.board.specs.Page.{line_text}
use Rattle.page.proofs.lines.put_blank_line.Goals as goal

pub returns : goal.returns
unfolding line_text
returns c = c.put_text.ensures
