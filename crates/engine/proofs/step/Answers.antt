-- `engine::step` meets its contract: refused with all as it was, or taken with its effect.
use mathlib.Core.Path.{refl}
use Rattle.board.specs.Next.{value_of}
use Rattle.engine.proofs.Outcome.{refused-state, done-by}
use Rattle.engine.proofs.step.Goals as goal

pub returns-in_err-of_step : goal.returns-in_err-of_step
unfolding value_of
returns-in_err-of_step c = record { performed = refused-state _ _ _ _ refl _ _ c.from_residual.ensures.1 c.in_err-of_step.ensures }

pub returns : goal.returns
unfolding value_of
returns c = record { performed = done-by _ _ _ _ refl c.in_ok-of_step.ensures c.progressed.ensures c.taken_step-progress.ensures }
