-- `hex::reading::sum` meets its contract. The invariant: the sum of the bytes so far, and how many of their characters are no digits.
use Prim.Native.Nat.{◌/◌}
use lib.ListN.{length}
use Rattle.intel_hex.proofs.Summing.{Summing}
use Rattle.intel_hex.proofs.reading.sum.Given as goal

abbrev pub invariant-loop-pair : goal.invariant-loop-pair
invariant-loop-pair l = Summing (length l.text / 2) l.text l.pair-index l.bytes l.strays
