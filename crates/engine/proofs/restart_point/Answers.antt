-- `engine::restart_point` meets its contract: a taken restart point has a worker that is there, whose number is its cell.
use mathlib.Core.Path.{refl, ◌∙◌, sym}
use native.Mathlib.Omega.{arith}
use Rattle.board.specs.Next.{value_of}
use Rattle.engine.proofs.Passed.{restart-stores}
use Rattle.engine.proofs.Effect.{starts-restart}
use Rattle.engine.proofs.Outcome.{refused-state, done}
use Rattle.engine.proofs.restart_point.Goals as goal

pub returns-in_err-of_restart_point : goal.returns-in_err-of_restart_point
unfolding value_of
returns-in_err-of_restart_point c = record { performed = refused-state _ _ _ _ refl _ _ c.from_residual.ensures.1 (c.in_err-of_restart_point.ensures c.args.value) }

pub overflow_cast-worker : goal.overflow_cast-worker
overflow_cast-worker c = omega (arith, restart-stores _ _ _ (sym (c.in_ok-of_restart_point.ensures c.args.value)))

pub noted-requires : goal.noted-requires
noted-requires c = (restart-stores _ _ _ (sym (c.in_ok-of_restart_point.ensures c.args.value))).0

pub returns : goal.returns
unfolding value_of
returns c = record {
  performed =
      done _ _ _ _ refl (c.in_ok-of_restart_point.ensures c.args.value)
      (starts-restart _ _ _ _ _ (c.noted.ensures _));
}
