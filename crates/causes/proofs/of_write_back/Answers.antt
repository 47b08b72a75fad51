-- The phases that are barred are off and formatting.
use mathlib.Core.List.{[]}
use Rattle.std.proofs.Common.{arith}
use Rattle.board.specs.Causes.{cause, causes, first_standing}
use Rattle.causes.proofs.Guard.{no_refusal_is_taken, refused-before}
use Rattle.causes.proofs.of_write_back.Goals as goal

pub returns-in_err-guarded : goal.returns-in_err-guarded
unfolding cause causes first_standing
returns-in_err-guarded c = rw (← c.not_recovering_or_running.ensures [] []) (refused-before _ _ _ _ _ _ c.from_residual.ensures.1 c.in_err-guarded.ensures)

pub returns : goal.returns
unfolding cause causes first_standing
returns c = grind (arith, no_refusal_is_taken, c.not_recovering_or_running.ensures [] [])
