-- The tests of the phase, the rows and the epoch are the board's.
use mathlib.Core.List.{[]}
use Rattle.std.proofs.Common.{arith}
use Rattle.board.specs.Causes.{cause, causes, first_standing}
use Rattle.causes.proofs.of_step.Goals as goal

pub returns-in_err-refuse : goal.returns-in_err-refuse
unfolding cause causes first_standing
returns-in_err-refuse c = grind (arith, c.not_on.ensures [] [])

pub returns-in_err-refuse-2 : goal.returns-in_err-refuse-2
unfolding cause causes first_standing
returns-in_err-refuse-2 c = grind (arith, c.not_on.ensures [] [])

pub returns-in_err-refuse-3 : goal.returns-in_err-refuse-3
unfolding cause causes first_standing
returns-in_err-refuse-3 c = grind (arith, c.not_on.ensures [] [], c.bad_rows.ensures c.args.state)

pub returns-in_err-refuse-4 : goal.returns-in_err-refuse-4
unfolding cause causes first_standing
returns-in_err-refuse-4 c = grind (arith, c.not_on.ensures [] [], c.bad_rows.ensures c.args.state)

pub returns : goal.returns
unfolding cause causes first_standing
returns c = grind (arith, c.not_on.ensures [] [], c.bad_rows.ensures c.args.state, c.stores_spent_epoch.ensures c.args.memory.now)
