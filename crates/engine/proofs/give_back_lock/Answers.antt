-- `engine::give_back_lock` meets its contract: a taken call has a lock that is one of the 16.
use mathlib.Core.Path.{refl, sym, ◌∙◌}
use Rattle.board.specs.Next.{value_of}
use Rattle.engine.proofs.Passed.{give-back-number}
use Rattle.engine.proofs.Effect.{gives-lock-back}
use Rattle.engine.proofs.Outcome.{refused-state, done}
use Rattle.engine.proofs.give_back_lock.Goals as goal

pub returns-in_err-of_give_back_lock : goal.returns-in_err-of_give_back_lock
unfolding value_of
returns-in_err-of_give_back_lock c = record { performed = refused-state _ _ _ _ refl _ _ c.from_residual.ensures.1 c.in_err-of_give_back_lock.ensures }

pub lock_given_back-requires : goal.lock_given_back-requires
lock_given_back-requires c = give-back-number _ _ _ (sym c.in_ok-of_give_back_lock.ensures)

pub returns : goal.returns
unfolding value_of
returns c = record { performed = done _ _ _ _ refl c.in_ok-of_give_back_lock.ensures (gives-lock-back _ _ _ _ _ c.lock_given_back.ensures) }
