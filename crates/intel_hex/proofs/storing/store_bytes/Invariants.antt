-- `hex::storing::store_bytes` meets its contract. The invariant: the first `k` bytes are stored.
use Prim.Native.Nat.{◌/◌}
use lib.ListN.{length}
use Rattle.intel_hex.proofs.Stored.{Filled}
use Rattle.intel_hex.proofs.storing.store_bytes.Given as goal

abbrev pub invariant-loop-k : goal.invariant-loop-k
invariant-loop-k l = Filled (length l.digits / 2) l.digits l.initial.row l.from l.k l.row
