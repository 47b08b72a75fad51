-- The bytes are tested at once.
use native.Mathlib.Omega.{arith}
use lib.Bits.{and_le_r}
use Rattle.locks.proofs.Lanes.{carries-any}
use Rattle.locks.proofs.even_held_from.Goals as goal

pub overflow_sub-result : goal.overflow_sub-result
overflow_sub-result c = omega arith

pub overflow_mul-result : goal.overflow_mul-result
overflow_mul-result c = record { fits = omega arith }

pub overflow_add-result : goal.overflow_add-result
overflow_add-result c = record { fits = omega (arith, and_le_r c.args.holders 1085102592571150095) }

pub returns : goal.returns
returns c = carries-any 8 c.args.holders c.args.workers (omega arith)
