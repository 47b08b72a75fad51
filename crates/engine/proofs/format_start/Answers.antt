-- `engine::format_start` meets its contract: a taken format is within the limits, so L and W fit.
use mathlib.Core.Path.{refl, ◌∙◌, sym}
use native.Mathlib.Omega.{arith}
use Rattle.board.specs.Next.{value_of}
use Rattle.engine.proofs.Passed.{format-limits}
use Rattle.engine.proofs.Effect.{starts-format}
use Rattle.engine.proofs.Outcome.{refused-state, done}
use Rattle.engine.proofs.format_start.Goals as goal

pub returns-in_err-of_format_start : goal.returns-in_err-of_format_start
unfolding value_of
returns-in_err-of_format_start c = record { performed = refused-state _ _ _ _ refl _ _ c.from_residual.ensures.1 c.in_err-of_format_start.ensures }

pub overflow_cast-lines : goal.overflow_cast-lines
overflow_cast-lines c = omega (arith, format-limits _ _ _ (sym c.in_ok-of_format_start.ensures))

pub overflow_cast-workers : goal.overflow_cast-workers
overflow_cast-workers c = omega (arith, format-limits _ _ _ (sym c.in_ok-of_format_start.ensures))

pub returns : goal.returns
unfolding value_of
returns c = record { performed = done _ _ _ _ refl c.in_ok-of_format_start.ensures (starts-format _ _ _ _ _ c.started.ensures) }
