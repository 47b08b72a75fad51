-- `hex::storing::store_words` meets its contract. The invariant: the first `i` words are stored.
use Prim.Native.Nat.{◌/◌}
use lib.ListN.{length}
use Rattle.intel_hex.proofs.Whole.{WordsFilled}
use Rattle.intel_hex.proofs.storing.store_words.Given as goal

abbrev pub invariant-loop-i : goal.invariant-loop-i
invariant-loop-i l = WordsFilled (length l.digits / 16) l.digits l.initial.row l.from l.i l.row
