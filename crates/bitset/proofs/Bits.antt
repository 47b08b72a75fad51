-- Laws of a word's bits.
use Prim.Native.Nat.{ℕ, zero, suc, ◌+◌, ◌-◌, ◌*◌, ◌/◌, ◌%◌, ◌^◌, ◌≤◌, ◌<◌, max}
use mathlib.Core.Path.{◌≡◌, refl, sym, ap, ap₂, subst, ◌∙◌}
use mathlib.Core.Bool.{Bool, true, false}
use native.Mathlib.Omega.{arith}
use native.Mathlib.Decide.{dec_lt}
use native.Mathlib.Nat.{suc-mul, mul_comm, max-zero, mod-lt, lt_of_lt_of_le, div-one, zero-div, div_self, div-eq_of_lt, mul-div_cancel, mul-mod_left, pow-suc}
use native.Mathlib.Numerals.{one-add}
use lib.Dec.{eqb}
use lib.Arith.{digits_mod}
use lib.Pow.{pow_pos, pow_mono, pow-lt, pow-add, shr-shr, shr_lt, split as divided}
use lib.Bits.{bit_or, or_lt, or_step, or_block, or_shr, or_zero_r}
use lib.Count.{ones, ones_step, count_trailing_zeros}
use borrow.Author.Tests.{eqb-true, eqb-false, eq-eqb}
use Rattle.predicate.proofs.Bools.{split, chosen, passed_over}
use Rattle.predicate.specs.Passing.{count_under, nth_under}
use Rattle.bitset.specs.Words.{bit_of, with_bit, bits_in}
use Rattle.predicate.proofs.Passing.{one_if, one_on, one-off, count_none, count-shift, nth_shifted, nth-shifted}

-- ---- a word shifted

-- The bits of a word shifted down by `k` are its bits from `k` on.
pub bit-shift : (n k i : ℕ) → bit_of (n / 2 ^ k) i ≡ bit_of n (k + i)
unfolding bit_of
bit-shift n k i = ap (λ (x : ℕ). eqb (x % 2) 1) (shr-shr n k i)

-- The same by one bit.
bit-half : (n i : ℕ) → bit_of n (suc i) ≡ bit_of (n / 2) i
bit-half n i = ap (bit_of n) (sym (one-add i)) ∙ sym (bit-shift n 1 i)

halved : (n : ℕ) → ◌≡◌ {A = ℕ → Bool} (λ i. bit_of n (suc i)) (bit_of (n / 2))
halved n j i = bit-half n i j

-- The lowest bit.
pub low_bit : (n : ℕ) → bit_of n 0 ≡ eqb (n % 2) 1
unfolding bit_of
low_bit n = ap (λ (x : ℕ). eqb (x % 2) 1) (div-one n)

low-on : (n : ℕ) → bit_of n 0 ≡ true → n % 2 ≡ 1
low-on n t = eqb-true (n % 2) 1 (sym (low_bit n) ∙ t)

low-off : (n : ℕ) → bit_of n 0 ≡ false → n % 2 ≡ 0
low-off n t = let odd = eqb-false (n % 2) 1 (sym (low_bit n) ∙ t) in omega arith

half_lt : (n k : ℕ) → n < 2 ^ suc k → n / 2 < 2 ^ k
half_lt n k h = shr_lt k 1 (subst (λ (x : ℕ). n < 2 ^ x) (let e : suc k ≡ k + 1 = omega arith in e) h)

-- ---- how many are set

-- 0 has no bit set.
pub bit-zero : (i : ℕ) → bit_of 0 i ≡ false
unfolding bit_of
bit-zero i = ap (λ (x : ℕ). eqb (x % 2) 1) (zero-div (2 ^ i))

-- The lowest digit, by its bit.
low-one : (n : ℕ) → n % 2 ≡ one_if (bit_of n 0)
low-one n = split (bit_of n 0) (λ t. low-on n t ∙ sym (one_on (bit_of n 0) t)) (λ t. low-off n t ∙ sym (one-off (bit_of n 0) t))

-- The lowest bit and those of the half are counted apart.
count-half : (k n : ℕ) → count_under (suc k) (bit_of n) ≡ n % 2 + count_under k (bit_of (n / 2))
count-half k n = count-shift k (bit_of n) ∙ ap₂ (λ (x : ℕ) (f : ℕ → Bool). x + count_under k f) (sym (low-one n)) (halved n)

-- A word of `k` bits has as many set as it has digits that are 1.
pub ones-count : (k n : ℕ) → n < 2 ^ k → ones n ≡ count_under k (bit_of n)
unfolding ones count_under
ones-count zero n h = ap ones (let e : n ≡ 0 = omega arith in e)
ones-count (suc k) n h = ones_step n ∙ ap (λ (x : ℕ). n % 2 + x) (ones-count k (n / 2) (half_lt n k h)) ∙ sym (count-half k n)

-- The bits that are set, counted one by one.
pub bits-count : (k n : ℕ) → bits_in k n ≡ count_under k (bit_of n)
unfolding bits_in count_under
bits-count zero n = refl
bits-count (suc k) zero = sym (count_none (suc k) (bit_of 0) bit-zero)
bits-count (suc k) (suc n) = ap (λ (x : ℕ). suc n % 2 + x) (bits-count k (suc n / 2)) ∙ sym (count-half k (suc n))

-- As many zeros stand below the lowest set bit as its number says.
trailing-shifted : (k n : ℕ) → count_trailing_zeros k n ≡ nth_shifted k (bit_of n) 0
unfolding count_trailing_zeros nth_shifted
trailing-shifted zero n = refl
trailing-shifted (suc k) n =
    split (bit_of n 0)
    (λ t. rw (low-on n t, t))
    (λ t. rw (low-off n t, t) (ap suc (trailing-shifted k (n / 2) ∙ ap (λ (f : ℕ → Bool). nth_shifted k f 0) (sym (halved n)))))

pub trailing : (k n : ℕ) → count_trailing_zeros k n ≡ nth_under k (bit_of n) 0
trailing k n = trailing-shifted k n ∙ sym (nth-shifted k (bit_of n) 0)

-- ---- a bit set

-- The digit of a power of two at its own place, and at another.
power-own : (b : ℕ) → 2 ^ b / 2 ^ b % 2 ≡ 1
power-own b = ap (λ (x : ℕ). x % 2) (div_self (pow_pos b))

power_below : (j k : ℕ) → 2 ^ (j + suc k) / 2 ^ j % 2 ≡ 0
power_below j k =
    ap (λ (x : ℕ). x / 2 ^ j % 2) (pow-add 2 j (suc k) ∙ mul_comm (2 ^ j) (2 ^ suc k))
    ∙ ap (λ (x : ℕ). x % 2) (mul-div_cancel (2 ^ suc k) (pow_pos j) ∙ pow-suc 2 k)
    ∙ mul-mod_left (2 ^ k) 2

power-other : (b j : ℕ) → (j ≡ b → ⊥) → 2 ^ b / 2 ^ j % 2 ≡ 0
power-other b j n =
    elim (dec_lt j b) [
      | yes h ↦
          let e : b ≡ j + suc (b - suc j) = omega arith in
          ap (λ (x : ℕ). 2 ^ x / 2 ^ j % 2) e ∙ power_below j (b - suc j)
      | no h ↦ ap (λ (x : ℕ). x % 2) (div-eq_of_lt (pow-lt (let l : b < j = omega (arith, n) in l)))
    ]

-- The digit of a union is the greater of the two.
or-digit : (a c j : ℕ) → bit_or a c / 2 ^ j % 2 ≡ max (a / 2 ^ j % 2) (c / 2 ^ j % 2)
or-digit a c j =
    ap (λ (x : ℕ). x % 2) (or_shr a c j ∙ or_step (a / 2 ^ j) (c / 2 ^ j))
    ∙ digits_mod (bit_or (a / 2 ^ j / 2) (c / 2 ^ j / 2)) (let l : max (a / 2 ^ j % 2) (c / 2 ^ j % 2) < 2 = omega arith in l)

bit-on : (w b : ℕ) → bit_of w b ≡ true → w / 2 ^ b % 2 ≡ 1
unfolding bit_of
bit-on w b t = eqb-true (w / 2 ^ b % 2) 1 t

bit-off : (w b : ℕ) → bit_of w b ≡ false → w / 2 ^ b % 2 ≡ 0
unfolding bit_of
bit-off w b t = let odd = eqb-false (w / 2 ^ b % 2) 1 t in omega arith

-- A union with a power of two sets its bit: the digits from `b` on are united with 1.
pub or-bit : (w b : ℕ) → bit_or w (2 ^ b) ≡ with_bit w b
unfolding with_bit
or-bit w b =
    let h = w / 2 ^ b in
    let l = w % 2 ^ b in
    let apart = ap₂ bit_or (sym (divided w b)) (let e : 2 ^ b ≡ 1 * 2 ^ b + 0 = omega arith in e) ∙ or_block b h 1 l 0 (mod-lt w (pow_pos b)) (pow_pos b) in
    let odd : bit_or h 1 ≡ h / 2 * 2 + 1 = or_step h 1 ∙ ap₂ (λ (x y : ℕ). x * 2 + y) (or_zero_r (h / 2)) (let e : max (h % 2) 1 ≡ 1 = omega arith in e) in
    let united : bit_or w (2 ^ b) ≡ (h / 2 * 2 + 1) * 2 ^ b + l = apart ∙ ap₂ (λ (x y : ℕ). x * 2 ^ b + y) odd (or_zero_r l) in
    split (bit_of w b)
    (λ t.
    let same : h / 2 * 2 + 1 ≡ h = omega (arith, bit-on w b t) in
    united ∙ ap (λ (x : ℕ). x * 2 ^ b + l) same ∙ divided w b ∙ sym (chosen (bit_of w b) w (w + 2 ^ b) t))
    (λ t.
    let next : h / 2 * 2 + 1 ≡ suc h = omega (arith, bit-off w b t) in
    united ∙ ap (λ (x : ℕ). x * 2 ^ b + l) next ∙ omega (arith, suc-mul h (2 ^ b), divided w b, passed_over (bit_of w b) w (w + 2 ^ b) t))

-- The bit that is set.
pub with-own : (w b : ℕ) → bit_of (with_bit w b) b ≡ true
unfolding bit_of
with-own w b =
    let digit = ap (λ (x : ℕ). x / 2 ^ b % 2) (sym (or-bit w b)) ∙ or-digit w (2 ^ b) b ∙ ap (max (w / 2 ^ b % 2)) (power-own b) in
    let odd : with_bit w b / 2 ^ b % 2 ≡ 1 = omega (arith, digit) in
    eq-eqb (with_bit w b / 2 ^ b % 2) 1 odd

-- Every other bit.
pub with-other : (w b j : ℕ) → (j ≡ b → ⊥) → bit_of (with_bit w b) j ≡ bit_of w j
unfolding bit_of
with-other w b j n =
    let digit = ap (λ (x : ℕ). x / 2 ^ j % 2) (sym (or-bit w b)) ∙ or-digit w (2 ^ b) j ∙ ap (max (w / 2 ^ j % 2)) (power-other b j n) in
    ap (λ (x : ℕ). eqb x 1) (digit ∙ max-zero (w / 2 ^ j % 2))

-- No bit of 0 is set.
-- A word of 64 bits stays one.
pub with-small : (w b : ℕ) → w < 2 ^ 64 → b < 64 → with_bit w b < 2 ^ 64
with-small w b h l = subst (λ (x : ℕ). x < 2 ^ 64) (or-bit w b) (or_lt 64 w (2 ^ b) h (pow-lt l))

-- ---- the bits from `m` on

-- A word of `k` bits, none of which is set.
none-set : (k w : ℕ) → w < 2 ^ k → ((i : ℕ) → i < k → bit_of w i ≡ false) → w ≡ 0
none-set zero w h none = omega arith
none-set (suc k) w h none =
    let half = none-set k (w / 2) (half_lt w k h) (λ i l. sym (bit-half w i) ∙ none (suc i) (omega arith)) in
    omega (arith, low-off w (none 0 (omega arith)))

-- Where no bit from `m` on is set, the word shifted down to them is 0.
pub none_from : (m w : ℕ) → w < 2 ^ 64 → ((b : ℕ) → m ≤ b → b < 64 → bit_of w b ≡ false) → w / 2 ^ m ≡ 0
none_from m w h none =
    elim (dec_lt m 64) [
      | yes l ↦
          none-set (64 - m) (w / 2 ^ m) (shr_lt (64 - m) m (subst (λ (x : ℕ). w < 2 ^ x) (let e : 64 ≡ 64 - m + m = omega arith in e) h))
          (λ i k. bit-shift w m i ∙ none (m + i) (omega arith) (omega arith))
      | no l ↦ div-eq_of_lt (lt_of_lt_of_le h (pow_mono (let e : 64 ≤ m = omega arith in e)))
    ]

-- And where it is 0, none is set.
pub from-none : (m w b : ℕ) → w / 2 ^ m ≡ 0 → m ≤ b → bit_of w b ≡ false
from-none m w b e l =
    let same : m + (b - m) ≡ b = omega arith in
    ap (bit_of w) (sym same) ∙ sym (bit-shift w m (b - m)) ∙ ap (λ (x : ℕ). bit_of x (b - m)) e ∙ bit-zero (b - m)
