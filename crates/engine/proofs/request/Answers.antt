-- `engine::request` meets its contract: refused with all as it was, or taken with its effect.
use mathlib.Core.Path.{refl}
use Rattle.board.specs.Next.{value_of}
use Rattle.engine.proofs.Effect.{requests}
use Rattle.engine.proofs.Outcome.{refused-state, done}
use Rattle.engine.proofs.request.Goals as goal

pub returns-in_err-of_request : goal.returns-in_err-of_request
unfolding value_of
returns-in_err-of_request c = record { performed = refused-state _ _ _ _ refl _ _ c.from_residual.ensures.1 c.in_err-of_request.ensures }

pub returns : goal.returns
unfolding value_of
returns c = record { performed = done _ _ _ _ refl c.in_ok-of_request.ensures (requests _ _ _ c.requesting.ensures) }
