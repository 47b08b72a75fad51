-- `engine::update` meets its contract: a taken update has a worker and a cell that are there.
use mathlib.Core.Path.{refl, ◌∙◌, sym}
use native.Mathlib.Omega.{arith}
use Rattle.board.specs.Next.{value_of}
use Rattle.engine.proofs.Passed.{update-stores}
use Rattle.engine.proofs.Effect.{starts-update}
use Rattle.engine.proofs.Outcome.{refused-state, done}
use Rattle.engine.proofs.update.Goals as goal

pub returns-in_err-of_update : goal.returns-in_err-of_update
unfolding value_of
returns-in_err-of_update c = record { performed = refused-state _ _ _ _ refl _ _ c.from_residual.ensures.1 (c.in_err-of_update.ensures c.args.value) }

pub overflow_cast-cell : goal.overflow_cast-cell
overflow_cast-cell c = omega (arith, update-stores _ _ _ _ (sym (c.in_ok-of_update.ensures c.args.value)))

pub noted-requires : goal.noted-requires
noted-requires c = (update-stores _ _ _ _ (sym (c.in_ok-of_update.ensures c.args.value))).0

pub returns : goal.returns
unfolding value_of
returns c = record {
  performed =
      done _ _ _ _ refl (c.in_ok-of_update.ensures c.args.value)
      (starts-update _ _ _ _ _ _ (c.noted.ensures _));
}
