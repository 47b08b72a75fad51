-- `engine::come_back` meets its contract: a taken call has a worker that is one of the eight.
use mathlib.Core.Path.{refl, sym, ◌∙◌}
use Rattle.board.specs.Next.{value_of}
use Rattle.engine.proofs.Passed.{come-back-seat}
use Rattle.engine.proofs.Effect.{comes_back_lem}
use Rattle.engine.proofs.Outcome.{refused-state, done}
use Rattle.engine.proofs.come_back.Goals as goal

pub returns-in_err-of_come_back : goal.returns-in_err-of_come_back
unfolding value_of
returns-in_err-of_come_back c = record { performed = refused-state _ _ _ _ refl _ _ c.from_residual.ensures.1 c.in_err-of_come_back.ensures }

pub conditioned-requires : goal.conditioned-requires
conditioned-requires c = come-back-seat _ _ (sym c.in_ok-of_come_back.ensures)

pub returns : goal.returns
unfolding value_of
returns c = record { performed = done _ _ _ _ refl c.in_ok-of_come_back.ensures (comes_back_lem _ _ _ _ c.conditioned.ensures) }
