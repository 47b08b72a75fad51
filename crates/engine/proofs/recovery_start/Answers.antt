-- `engine::recovery_start` meets its contract: a taken recovery has the rows and the header that `restart` asks for.
use mathlib.Core.Path.{refl, ◌∙◌, sym}
use Rattle.board.specs.Next.{value_of}
use Rattle.engine.proofs.Passed.{recovery-restarts}
use Rattle.engine.proofs.Effect.{starts-recovery}
use Rattle.engine.proofs.Outcome.{refused-state, done}
use Rattle.engine.proofs.recovery_start.Goals as goal

pub returns-in_err-of_recovery_start : goal.returns-in_err-of_recovery_start
unfolding value_of
returns-in_err-of_recovery_start c = record { performed = refused-state _ _ _ _ refl _ _ c.from_residual.ensures.1 c.in_err-of_recovery_start.ensures }

pub restart-requires : goal.restart-requires
restart-requires c = recovery-restarts _ (sym c.in_ok-of_recovery_start.ensures)

pub returns : goal.returns
unfolding value_of
returns c = record { performed = done _ _ _ _ refl c.in_ok-of_recovery_start.ensures (starts-recovery _ _ _ c.restart.ensures.0 c.restart.ensures.1) }
