-- `hex::storing::half_of` meets its contract.
use Prim.Native.Nat.{ℕ}
use mathlib.Core.Path.{ap, ◌∙◌}
use Rattle.intel_hex.proofs.Whole.{digits_from, bytes_from, half_from, half-right}
use Rattle.intel_hex.proofs.storing.half_of.Goals as goal

pub returns : goal.returns
returns c =
    ap (λ (n : ℕ). half_from (bytes_from (digits_from n))) c.eight_of-places.ensures
    ∙ half-right c.args.text.now c.requires.1
