-- A count of 512 lines at most leaves room for two more.
use native.Mathlib.Omega.{arith}
use Rattle.bitset.proofs.Words.{size_room}
use Rattle.checks.proofs.record.past_release.Goals as goal

pub overflow_add-result : goal.overflow_add-result
overflow_add-result c = record { fits = omega (arith, c.size.ensures, size_room c.args.state.dirty) }
