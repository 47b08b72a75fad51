-- The epoch that is tested is the cache's.
use mathlib.Core.List.{[]}
use Rattle.std.proofs.Common.{arith}
use Rattle.board.specs.Causes.{cause, causes, first_standing}
use Rattle.causes.proofs.Guard.{no_refusal_is_taken}
use Rattle.causes.proofs.of_request.Goals as goal

pub returns : goal.returns
unfolding cause causes first_standing
returns c = grind (arith, no_refusal_is_taken, c.epoch_spent.ensures c.args.state [])
