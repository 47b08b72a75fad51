-- A guard that refused comes before the call's own lines.
use Rattle.board.specs.Causes.{cause, causes, first_standing}
use Rattle.causes.proofs.Guard.{refused-before}
use Rattle.causes.proofs.of_update.Goals as goal

pub returns-in_err-running : goal.returns-in_err-running
unfolding cause causes first_standing
returns-in_err-running c v = refused-before _ _ _ _ _ _ c.from_residual.ensures.1 c.in_err-running.ensures
