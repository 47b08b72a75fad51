-- The three lines that stand in each guarded call.
use Rattle.std.proofs.Common.{arith}
use Rattle.board.specs.Causes.{first_standing}
use Rattle.causes.proofs.Guard.{no_refusal_is_taken}
use Rattle.causes.proofs.guarded.Goals as goal

pub returns : goal.returns
unfolding first_standing
returns c = grind (arith, no_refusal_is_taken, c.bad_rows.ensures c.args.state)
