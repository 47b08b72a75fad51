-- `engine::take_lock` meets its contract: a taken call has a worker that is one of the eight and a lock that is one of the 16.
use mathlib.Core.Path.{refl, sym, ◌∙◌}
use Rattle.board.specs.Next.{value_of}
use Rattle.engine.proofs.Passed.{take-lock-seat}
use Rattle.engine.proofs.Effect.{takes-lock}
use Rattle.engine.proofs.Outcome.{refused-state, done}
use Rattle.engine.proofs.take_lock.Goals as goal

pub returns-in_err-of_take_lock : goal.returns-in_err-of_take_lock
unfolding value_of
returns-in_err-of_take_lock c = record { performed = refused-state _ _ _ _ refl _ _ c.from_residual.ensures.1 c.in_err-of_take_lock.ensures }

pub lock_taken-requires : goal.lock_taken-requires
lock_taken-requires c = take-lock-seat _ _ _ (sym c.in_ok-of_take_lock.ensures)

pub returns : goal.returns
unfolding value_of
returns c = record { performed = done _ _ _ _ refl c.in_ok-of_take_lock.ensures (takes-lock _ _ _ _ _ c.lock_taken.ensures) }
