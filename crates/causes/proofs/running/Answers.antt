-- The phase that is barred is any but running.
use mathlib.Core.List.{[]}
use Rattle.std.proofs.Common.{arith}
use Rattle.board.specs.Causes.{first_standing}
use Rattle.causes.proofs.running.Goals as goal

pub returns : goal.returns
unfolding first_standing
returns c = grind (arith, c.not_running.ensures [] [])
