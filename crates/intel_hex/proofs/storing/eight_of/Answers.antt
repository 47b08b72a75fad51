-- `hex::storing::eight_of` meets its contract: the eight characters, the first of them lowest.
use Prim.Native.Nat.{ℕ, ◌<◌}
use mathlib.Core.Path.{◌≡◌, ap, ◌∙◌}
use mathlib.Core.List.{List}
use native.Mathlib.Omega.{arith}
use lib.ListN.{get_or, take}
use lib.Seq.{get_or-take}
use Rattle.std.specs.Int.{w64, from_le_bytes}
use Rattle.intel_hex.specs.Lanes.{lanes}
use Rattle.intel_hex.specs.Storing.{eight_of}
use Rattle.intel_hex.proofs.storing.eight_of.Goals as goal

eight-right : {n : ℕ} {eight : List ℕ} (text : List ℕ) → eight ≡ take 8 text → n ≡ from_le_bytes w64 eight → n ≡ eight_of text
unfolding eight_of lanes
eight-right {n} {eight} text e f =
    let at : (i : ℕ) → i < 8 → get_or eight i 0 ≡ get_or text i 0 = (λ i h. ap (λ (l : List ℕ). get_or l i 0) e ∙ get_or-take 8 text i 0 h) in
    omega (arith, f, at 0 (omega arith), at 1 (omega arith), at 2 (omega arith), at 3 (omega arith), at 4 (omega arith), at 5 (omega arith), at 6 (omega arith), at 7 (omega arith))

pub returns : goal.returns
returns c = eight-right c.args.text.now (rw c.unwrap.ensures at c.first_chunk.ensures.cases).same c.from_le_bytes.ensures
