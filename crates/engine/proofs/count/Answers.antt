-- `engine::count` meets its contract: refused it gives 0, taken the steps of a checkpoint.
use native.Mathlib.Omega.{arith}
use Rattle.bitset.proofs.Words.{size_room}
use Rattle.engine.proofs.Effect.{counts}
use Rattle.engine.proofs.Outcome.{refused, done, counts-nothing, counts-steps}
use Rattle.engine.proofs.count.Goals as goal

pub returns-in_err-of_count : goal.returns-in_err-of_count
returns-in_err-of_count c = record { performed = refused _ _ _ _ (counts-nothing _ _ _ c.from_residual.ensures.1 c.in_err-of_count.ensures) _ _ c.from_residual.ensures.1 c.in_err-of_count.ensures }

pub returns : goal.returns
returns c = record { performed = done _ _ _ _ (counts-steps _ c.in_ok-of_count.ensures c.size.ensures) c.in_ok-of_count.ensures (counts _ _ _) }

pub overflow_add-result : goal.overflow_add-result
overflow_add-result c = record { fits = omega (arith, c.size.ensures, size_room c.args.state.dirty) }
