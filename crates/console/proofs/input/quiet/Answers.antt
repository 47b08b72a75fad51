-- `console::input::quiet` meets its contract: byte by byte, the line goes on.
use Rattle.std.proofs.Common.{arith}
use Rattle.console.proofs.Feeds.{quiet_for, quiet-later}
use Rattle.console.proofs.input.quiet.Goals as goal

pub returns : goal.returns
unfolding quiet_for
returns c = let a = c.args in quiet-later a.text.now a.i 7 (omega arith)
