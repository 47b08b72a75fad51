-- `page::lines::put_heading` meets its contract: the bytes are the heading's.
use Rattle.board.specs.Page.{line_text}
use Rattle.page.proofs.lines.put_heading.Goals as goal

pub returns : goal.returns
unfolding line_text
returns c = c.put_text.ensures
