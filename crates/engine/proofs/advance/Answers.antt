-- `engine::advance` meets its contract: refused with all as it was, or taken with its effect.
use mathlib.Core.Path.{refl}
use Rattle.board.specs.Next.{value_of}
use Rattle.engine.proofs.Outcome.{refused-state, done}
use Rattle.engine.proofs.advance.Goals as goal

pub returns-in_err-of_advance : goal.returns-in_err-of_advance
unfolding value_of
returns-in_err-of_advance c = record { performed = refused-state _ _ _ _ refl _ _ c.from_residual.ensures.1 c.in_err-of_advance.ensures }

pub returns : goal.returns
unfolding value_of
returns c = record { performed = done _ _ _ _ refl c.in_ok-of_advance.ensures c.taken_advance.ensures }
