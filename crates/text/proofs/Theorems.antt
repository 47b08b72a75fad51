-- Proves what is claimed of a number's text and of the table of the powers of ten.
use Rattle.std.proofs.Common.{◌≡◌, ℕ, zero, suc, ◌-◌, ◌^◌, ◌<◌, ◌≤◌, length, refl, arith}
use Rattle.text.specs.Numbers.{spelled, number_text, NoLeadingZero, NumbersHold}
use Rattle.text.specs.Powers.{PowersHold}
use Rattle.text.proofs.Numbers.{number-value, number_digits, number-first, number-width, number-long}
use Rattle.text.proofs.TenTimes.{power_at}

below : (k n : ℕ) → 0 < k → n < 10 ^ k → length (number_text n) ≤ k
below zero n h p = absurd (omega arith)
below (suc k) n h p = number-width k n p

widest : length (number_text (2 ^ 64 - 1)) ≡ 20
widest = omega (arith, number-width 19 (2 ^ 64 - 1) (omega arith), number-long 19 (2 ^ 64 - 1) (omega arith))

none : NoLeadingZero
unfolding spelled
none = record { none = refl; other = number-first }

pub numbers-hold : NumbersHold
numbers-hold =
    record {
      read = λ n. record { digits = number_digits n; number = number-value n };
      zeros = none;
      widths = record { below = below; most = widest };
    }

pub powers-hold : PowersHold
powers-hold = record { entries = λ table p. power_at p }
