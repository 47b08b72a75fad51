-- `hex::writing::put_half` meets its contract: four pairs of characters, one behind the other.
use mathlib.Core.Path.{subst}
use Prim.Native.Nat.{ℕ}
use native.Mathlib.Omega.{arith}
use Rattle.intel_hex.specs.Lanes.{Paired}
use Rattle.intel_hex.proofs.Lanes.{half-text}
use Rattle.intel_hex.proofs.Written.{written_as, follows}
use Rattle.intel_hex.proofs.writing.put_half.Goals as goal

pub returns : goal.returns
returns c =
    let two = follows c.put_pair.ensures.0 c.put_pair-2.ensures.0 (omega arith) in
    let three = follows two c.put_pair-3.ensures.0 (omega arith) in
    let four = follows three c.put_pair-4.ensures.0 (omega arith) in
    let pairs = subst (λ (n : ℕ). Paired n c.characters-pairs.result) c.spread.ensures c.characters-pairs.ensures in
    (written_as four (half-text c.args.half c.characters-pairs.result pairs), omega arith)
