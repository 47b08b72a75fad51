-- `engine::go_away` meets its contract: a taken call has a worker that is one of the eight.
use mathlib.Core.Path.{refl, sym, ◌∙◌}
use Rattle.board.specs.Next.{value_of}
use Rattle.engine.proofs.Passed.{go-away-seat}
use Rattle.engine.proofs.Effect.{goes-away}
use Rattle.engine.proofs.Outcome.{refused-state, done}
use Rattle.engine.proofs.go_away.Goals as goal

pub returns-in_err-of_go_away : goal.returns-in_err-of_go_away
unfolding value_of
returns-in_err-of_go_away c = record { performed = refused-state _ _ _ _ refl _ _ c.from_residual.ensures.1 c.in_err-of_go_away.ensures }

pub conditioned-requires : goal.conditioned-requires
conditioned-requires c = go-away-seat _ _ (sym c.in_ok-of_go_away.ensures)

pub returns : goal.returns
unfolding value_of
returns c = record { performed = done _ _ _ _ refl c.in_ok-of_go_away.ensures (goes-away _ _ _ _ c.conditioned.ensures) }
