-- The lock's old digit is taken away at its place, and the new one added.
use Prim.Native.Nat.{ℕ, ◌+◌, ◌-◌, ◌*◌, ◌^◌, ◌%◌, ◌<◌}
use mathlib.Core.Path.{◌≡◌, ap, ap₂, ◌∙◌}
use native.Mathlib.Omega.{arith}
use Rattle.locks.specs.Holders.{digit_of, with_digit}
use Rattle.locks.proofs.Holders.{digit_lt, digit-within, shifted, with-small}
use Rattle.locks.proofs.with_digit.Goals as goal

-- The old digit at its place.
old : (h k d : ℕ) → d ≡ digit_of h k → k < 16 → d * 2 ^ (4 * k) % 2 ^ 64 ≡ digit_of h k * 16 ^ k
old h k d e l = ap (λ (x : ℕ). x * 2 ^ (4 * k) % 2 ^ 64) e ∙ shifted (digit_of h k) k (digit_lt h k) l

-- What the code computes is the word with the new digit.
written : (h k d n : ℕ) → d ≡ digit_of h k → k < 16 → n < 16 → h - d * 2 ^ (4 * k) % 2 ^ 64 + n * 2 ^ (4 * k) % 2 ^ 64 ≡ with_digit h k n
unfolding with_digit
written h k d n e l s = ap₂ (λ (x y : ℕ). h - x + y) (old h k d e l) (shifted n k s l)

pub overflow_sub-result : goal.overflow_sub-result
overflow_sub-result c =
    let a = c.args in
    omega (arith, old a.holders a.lock c.digit.result c.digit.ensures.value (omega arith), digit-within a.holders a.lock)

pub overflow_add-result : goal.overflow_add-result
overflow_add-result c =
    let a = c.args in
    record { fits = omega (arith, written a.holders a.lock c.digit.result a.bits c.digit.ensures.value (omega arith) (omega arith), with-small a.holders a.lock a.bits (omega arith) (omega arith) (omega arith)) }

pub returns : goal.returns
returns c =
    let a = c.args in written a.holders a.lock c.digit.result a.bits c.digit.ensures.value (omega arith) (omega arith)
