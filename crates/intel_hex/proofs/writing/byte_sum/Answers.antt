-- `hex::writing::byte_sum` meets its contract.
use Prim.Native.Nat.{◌+◌, ◌/◌, ◌%◌}
use mathlib.Core.Path.{refl, ap₂}
use native.Mathlib.Omega.{arith}
use Rattle.intel_hex.proofs.Lanes.{spaced-under, word_sum}
use Rattle.intel_hex.proofs.writing.byte_sum.Goals as goal

pub overflow_add-twos : goal.overflow_add-twos
overflow_add-twos c =
    let w = c.args.word in
    record { fits = omega (arith, c.spread.ensures, c.spread-2.ensures, spaced-under (w % 4294967296), spaced-under (w / 4294967296)) }

pub returns : goal.returns
returns c = word_sum c.args.word _ _ (ap₂ ◌+◌ c.spread.ensures c.spread-2.ensures) refl
