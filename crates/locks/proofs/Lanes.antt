-- Laws of a word's bytes that are tested at once: every second lock has a byte for itself.
use Prim.Native.Nat.{ℕ, zero, suc, ◌+◌, ◌-◌, ◌*◌, ◌/◌, ◌%◌, ◌<◌}
use mathlib.Core.Path.{◌≡◌, refl, sym, ap, ap₂, ◌∙◌}
use mathlib.Core.Bool.{Bool, true, false, not, ◌||◌}
use native.Mathlib.Omega.{arith}
use native.Mathlib.Decide.{dec_lt}
use native.Mathlib.Nat.{mul-add, mul_assoc, div-one, div-div-eq-div-mul}
use lib.Dec.{ltb, eqb}
use lib.Bits.{bit_and, and_block, and_mask, and_zero_r}
use lib.Pow.{split as divided}
use borrow.Author.Tests.{lt-ltb, le-ltb, eq-eqb, ne_eqb, eqb-true}
use Rattle.predicate.proofs.Bools.{or_left, or_right, or-none, not-off, not_on_lem}
use Rattle.predicate.specs.Passing.{any_under}
use Rattle.predicate.proofs.Passing.{none-under, under_none}
use Rattle.locks.specs.Holders.{digit_of}
use Rattle.locks.proofs.Holders.{digit-next, any-shift}

-- A 1 in each of `n` bytes.
abbrev pub each : ℕ → ℕ
each zero = 0
each (suc n) = each n * 256 + 1

-- The low four bits of each of `n` bytes.
abbrev lows : ℕ → ℕ → ℕ
lows n h = bit_and h (15 * each n)

-- Bit 4 of each of `n` bytes, once `a` was added to its low four bits.
abbrev pub carries : ℕ → ℕ → ℕ → ℕ
carries n h a = bit_and (lows n h + a * each n) (16 * each n)

lows-next : (n h : ℕ) → lows (suc n) h ≡ lows n (h / 256) * 256 + h % 16
lows-next n h =
    ap₂ bit_and (sym (divided h 8)) (let e : 15 * (each n * 256 + 1) ≡ 15 * each n * 256 + 15 = omega arith in e)
    ∙ and_block 8 (h / 256) (15 * each n) (h % 256) 15 (omega arith) (omega arith)
    ∙ ap (λ (x : ℕ). lows n (h / 256) * 256 + x) (and_mask (h % 256) 4 ∙ (let e : h % 256 % 16 ≡ h % 16 = omega arith in e))

carries-next : (n h a : ℕ) → a < 16 → carries (suc n) h a ≡ carries n (h / 256) a * 256 + bit_and (h % 16 + a) 16
carries-next n h a s =
    let spread = mul-add a (each n * 256) 1 in
    let moved = mul_assoc a (each n) 256 in
    let sum : lows (suc n) h + a * each (suc n) ≡ (lows n (h / 256) + a * each n) * 256 + (h % 16 + a) = omega (arith, lows-next n h, spread, moved) in
    ap₂ bit_and sum (let e : 16 * (each n * 256 + 1) ≡ 16 * each n * 256 + 16 = omega arith in e)
    ∙ and_block 8 (lows n (h / 256) + a * each n) (16 * each n) (h % 16 + a) 16 (omega arith) (omega arith)

-- Bit 4 of a number below 32.
bit-four : (x : ℕ) → x < 32 → bit_and x 16 ≡ x / 16 * 16
bit-four x s =
    ap (λ (y : ℕ). bit_and y 16) (sym (divided x 4))
    ∙ and_block 4 (x / 16) 1 (x % 16) 0 (omega arith) (omega arith)
    ∙ ap₂ (λ (y z : ℕ). y * 16 + z) (and_mask (x / 16) 1) (and_zero_r (x % 16))
    ∙ omega arith

-- It is set where the four bits are over `w`.
over : (d w : ℕ) → d < 16 → w < 16 → not (eqb (bit_and (d + (15 - w)) 16) 0) ≡ ltb w d
over d w s t =
    let bit = bit-four (d + (15 - w)) (omega arith) in
    elim (dec_lt w d) [
      | yes h ↦ ap not (ne_eqb (bit_and (d + (15 - w)) 16) 0 (λ e. omega arith)) ∙ sym (lt-ltb w d h)
      | no h ↦ ap not (eq-eqb (bit_and (d + (15 - w)) 16) 0 (omega arith)) ∙ sym (le-ltb w d (omega arith))
    ]

-- Two tests that fail together are equal.
same-off : (a b : Bool) → (a ≡ false → b ≡ false) → (b ≡ false → a ≡ false) → a ≡ b
same-off true true f g = refl
same-off true false f g = g refl
same-off false true f g = sym (f refl)
same-off false false f g = refl

-- Of two digits one is not 0.
either : (x y : ℕ) → not (eqb (x * 256 + y) 0) ≡ not (eqb y 0) || not (eqb x 0)
either x y =
    same-off (not (eqb (x * 256 + y) 0)) (not (eqb y 0) || not (eqb x 0))
    (λ e.
    let none = eqb-true (x * 256 + y) 0 (not-off _ e) in
    or-none _ _ (not_on_lem _ (eq-eqb y 0 (omega arith))) (not_on_lem _ (eq-eqb x 0 (omega arith))))
    (λ e.
    let low = eqb-true y 0 (not-off _ (or_left (not (eqb y 0)) (not (eqb x 0)) e)) in
    let high = eqb-true x 0 (not-off _ (or_right (not (eqb y 0)) (not (eqb x 0)) e)) in
    not_on_lem _ (eq-eqb (x * 256 + y) 0 (omega arith)))

-- The digits of a word without its lowest byte.
digit-byte : (h k : ℕ) → digit_of h (2 * suc k) ≡ digit_of (h / 256) (2 * k)
digit-byte h k =
    ap (digit_of h) (let e : 2 * suc k ≡ suc (suc (2 * k)) = omega arith in e)
    ∙ sym (digit-next h (suc (2 * k))) ∙ sym (digit-next (h / 16) (2 * k))
    ∙ ap (λ (x : ℕ). digit_of x (2 * k)) (div-div-eq-div-mul h 16 16)

low_digit : (h : ℕ) → digit_of h 0 ≡ h % 16
unfolding digit_of
low_digit h = ap (λ (x : ℕ). x % 16) (div-one h)

-- Every second lock's digit at once.
pub carries-any : (n h w : ℕ) → w < 16 → not (eqb (carries n h (15 - w)) 0) ≡ any_under n (λ k. ltb w (digit_of h (2 * k)))
unfolding any_under
carries-any zero h w s = ap (λ (x : ℕ). not (eqb x 0)) (and_zero_r (lows 0 h + (15 - w) * each 0))
carries-any (suc n) h w s =
    ap (λ (x : ℕ). not (eqb x 0)) (carries-next n h (15 - w) (omega arith))
    ∙ either (carries n (h / 256) (15 - w)) (bit_and (h % 16 + (15 - w)) 16)
    ∙ ap₂ (λ (a b : Bool). a || b)
    (over (h % 16) w (omega arith) s ∙ ap (ltb w) (sym (low_digit h)))
    (carries-any n (h / 256) w s ∙ (λ i. any_under n (λ k. ltb w (sym (digit-byte h k) i))))
    ∙ sym (any-shift n (λ k. ltb w (digit_of h (2 * k))))

-- Even numbers below 16 and odd ones are tested apart.
pub any-halves : (f : ℕ → Bool) → any_under 8 (λ k. f (2 * k)) || any_under 8 (λ k. f (suc (2 * k))) ≡ any_under 16 f
any-halves f =
    let even = any_under 8 (λ k. f (2 * k)) in
    let odd = any_under 8 (λ k. f (suc (2 * k))) in
    same-off (even || odd) (any_under 16 f)
    (λ e. under_none 16 f (λ i l. half i l (none-under 8 (λ k. f (2 * k)) (or_left even odd e)) (none-under 8 (λ k. f (suc (2 * k))) (or_right even odd e))))
    (λ e. or-none even odd (under_none 8 (λ k. f (2 * k)) (λ k l. none-under 16 f e (2 * k) (omega arith))) (under_none 8 (λ k. f (suc (2 * k))) (λ k l. none-under 16 f e (suc (2 * k)) (omega arith))))
  where
    half : (i : ℕ) → i < 16 → ((k : ℕ) → k < 8 → f (2 * k) ≡ false) → ((k : ℕ) → k < 8 → f (suc (2 * k)) ≡ false) → f i ≡ false
    half i l p q =
        elim (dec_lt (i % 2) 1) [
          | yes h ↦ ap f (let e : i ≡ 2 * (i / 2) = omega arith in e) ∙ p (i / 2) (omega arith)
          | no h ↦ ap f (let e : i ≡ suc (2 * (i / 2)) = omega arith in e) ∙ q (i / 2) (omega arith)
        ]
