-- Laws of the holders of sixteen locks in one word.
use Prim.Native.Nat.{ℕ, zero, suc, ◌+◌, ◌-◌, ◌*◌, ◌/◌, ◌%◌, ◌^◌, ◌≤◌, ◌<◌}
use mathlib.Core.Path.{◌≡◌, refl, sym, ap, subst, ◌∙◌}
use mathlib.Core.Bool.{Bool, true, false, ◌||◌}
use native.Mathlib.Omega.{arith}
use native.Mathlib.Decide.{dec_lt}
use native.Mathlib.Nat.{add-mul, mul_assoc, mul-add-div_right, mul-add-mod_self_right, mod-lt, div-add-mod', div-div-eq-div-mul, div-lt_iff_lt-mul, div-one, zero-div, div-eq_of_lt, lt_of_lt_of_le, pow-suc, pow-succ', one-le-pow, pow-le-pow_right}
use lib.Dec.{ltb, eqb}
use lib.Arith.{digits_lt, digits_div, digits_mod}
use lib.Pow.{pow-add, shl_exact}
use borrow.Author.Tests.{ltb-false, le-ltb, eqb-true, eqb-false, eq-eqb, ne_eqb}
use Rattle.predicate.proofs.Bools.{split}
use Rattle.predicate.specs.Passing.{any_under}
use Rattle.predicate.proofs.Passing.{none-under, under_none}
use Rattle.locks.specs.Holders.{digit_of, unheld, holds, holds_any, held_from, with_digit, held_by, given_back}

-- ---- a digit, and the number around it

pub power_pos : (k : ℕ) → 0 < 16 ^ k
power_pos k = one-le-pow k 16 (omega arith)

-- Each lock has four bits.
pub power-bits : (k : ℕ) → 16 ^ k ≡ 2 ^ (4 * k)
power-bits zero = refl
power-bits (suc k) =
    pow-suc 16 k ∙ ap (λ (x : ℕ). x * 16) (power-bits k) ∙ sym (pow-add 2 (4 * k) 4) ∙ ap (λ (x : ℕ). 2 ^ x) (let e : 4 * k + 4 ≡ 4 * suc k = omega arith in e)

pub digit_lt : (h k : ℕ) → digit_of h k < 16
unfolding digit_of
digit_lt h k = mod-lt (h / 16 ^ k) (omega arith)

pub digit-none : (k : ℕ) → digit_of 0 k ≡ 0
unfolding digit_of
digit-none k = ap (λ (x : ℕ). x % 16) (zero-div (16 ^ k))

-- Past a number's length its digits are 0.
pub digit-past : (h k : ℕ) → h < 2 ^ 64 → 16 ≤ k → digit_of h k ≡ 0
unfolding digit_of
digit-past h k s l =
    ap (λ (x : ℕ). x % 16) (div-eq_of_lt (lt_of_lt_of_le s (pow-le-pow_right {n = 16} (omega arith) {i = 16} l)))

-- The digits of a number without its lowest.
pub digit-next : (h k : ℕ) → digit_of (h / 16) k ≡ digit_of h (suc k)
unfolding digit_of
digit-next h k =
    ap (λ (x : ℕ). x % 16) (div-div-eq-div-mul h 16 (16 ^ k) ∙ ap (λ (x : ℕ). h / x) (sym (pow-succ' 16 k)))

-- The digits from lock `k` on with another one for it.
upper : ℕ → ℕ → ℕ → ℕ
upper h k d = h / 16 ^ k / 16 * 16 + d

-- The word by the digits from `k` on and those below.
around : (h k : ℕ) → h ≡ upper h k (digit_of h k) * 16 ^ k + h % 16 ^ k
unfolding digit_of upper
around h k = sym (ap (λ (x : ℕ). x * 16 ^ k + h % 16 ^ k) (div-add-mod' (h / 16 ^ k) 16) ∙ div-add-mod' h (16 ^ k))

changed : (h k d : ℕ) → with_digit h k d ≡ upper h k d * 16 ^ k + h % 16 ^ k
unfolding with_digit upper
changed h k d =
    let high = h / 16 ^ k / 16 * 16 in
    omega (arith, around h k, add-mul high (digit_of h k) (16 ^ k), add-mul high d (16 ^ k))

-- A digit at its place is within the number.
pub digit-within : (h k : ℕ) → digit_of h k * 16 ^ k ≤ h
unfolding upper
digit-within h k = omega (arith, around h k, add-mul (h / 16 ^ k / 16 * 16) (digit_of h k) (16 ^ k))

-- A digit shifted to its place loses no bit.
pub shifted : (d k : ℕ) → d < 16 → k < 16 → d * 2 ^ (4 * k) % 2 ^ 64 ≡ d * 16 ^ k
shifted d k s l = shl_exact {a = d} 4 (4 * k) 64 s (omega arith) ∙ ap (λ (x : ℕ). d * x) (sym (power-bits k))

-- A digit below `k` is one of the part below.
lower : (x k j r : ℕ) → j < k → digit_of (x * 16 ^ k + r) j ≡ digit_of r j
unfolding digit_of
lower x k j r l =
    let m = k - suc j in
    let power : 16 ^ k ≡ 16 ^ m * 16 * 16 ^ j = ap (λ (i : ℕ). 16 ^ i) (let e : k ≡ suc m + j = omega arith in e) ∙ pow-add 16 (suc m) j ∙ ap (λ (i : ℕ). i * 16 ^ j) (pow-suc 16 m) in
    let moved : x * 16 ^ k ≡ x * 16 ^ m * 16 * 16 ^ j = ap (λ (i : ℕ). x * i) power ∙ sym (mul_assoc x (16 ^ m * 16) (16 ^ j)) ∙ ap (λ (i : ℕ). i * 16 ^ j) (sym (mul_assoc x (16 ^ m) 16)) in
    ap (λ (i : ℕ). (i + r) / 16 ^ j % 16) moved
    ∙ ap (λ (i : ℕ). i % 16) (mul-add-div_right (power_pos j) (x * 16 ^ m * 16) r)
    ∙ mul-add-mod_self_right (x * 16 ^ m) 16 (r / 16 ^ j)

-- A digit past `k` is one of the part above.
higher : (x k j r d : ℕ) → d < 16 → r < 16 ^ k → k < j → digit_of ((x * 16 + d) * 16 ^ k + r) j ≡ digit_of x (j - suc k)
unfolding digit_of
higher x k j r d s t l =
    let m = j - suc k in
    let power : 16 ^ j ≡ 16 ^ k * 16 * 16 ^ m = ap (λ (i : ℕ). 16 ^ i) (let e : j ≡ suc k + m = omega arith in e) ∙ pow-add 16 (suc k) m ∙ ap (λ (i : ℕ). i * 16 ^ m) (pow-suc 16 k) in
    let n = (x * 16 + d) * 16 ^ k + r in
    ap (λ (i : ℕ). i % 16)
    (ap (λ (i : ℕ). n / i) power
    ∙ sym (div-div-eq-div-mul n (16 ^ k * 16) (16 ^ m))
    ∙ ap (λ (i : ℕ). i / 16 ^ m) (sym (div-div-eq-div-mul n (16 ^ k) 16) ∙ ap (λ (i : ℕ). i / 16) (digits_div (x * 16 + d) t) ∙ digits_div x s))

pub digit-own : (h k d : ℕ) → d < 16 → digit_of (with_digit h k d) k ≡ d
unfolding digit_of upper
digit-own h k d s =
    ap (λ (x : ℕ). x / 16 ^ k % 16) (changed h k d)
    ∙ ap (λ (x : ℕ). x % 16) (digits_div (upper h k d) (mod-lt h (power_pos k)))
    ∙ digits_mod (h / 16 ^ k / 16) s

pub digit-other : (h k d j : ℕ) → d < 16 → (j ≡ k → ⊥) → digit_of (with_digit h k d) j ≡ digit_of h j
unfolding upper
digit-other h k d j s n =
    let rest = h % 16 ^ k in
    let before = ap (λ (x : ℕ). digit_of x j) (around h k) in
    ap (λ (x : ℕ). digit_of x j) (changed h k d)
    ∙ elim (dec_lt j k) [
      | yes l ↦ lower (upper h k d) k j rest l ∙ sym (before ∙ lower (upper h k (digit_of h k)) k j rest l)
      | no l ↦
          let past : k < j = omega (arith, n) in
          let under = mod-lt h (power_pos k) in
          let high = h / 16 ^ k / 16 in
          higher high k j rest d s under past ∙ sym (before ∙ higher high k j rest (digit_of h k) (digit_lt h k) under past)
    ]

-- A word of 64 bits stays one.
pub with-small : (h k d : ℕ) → h < 2 ^ 64 → k < 16 → d < 16 → with_digit h k d < 2 ^ 64
unfolding upper
with-small h k d s l t =
    let m = 15 - k in
    let power : 16 ^ m * 16 * 16 ^ k ≡ 2 ^ 64 = ap (λ (x : ℕ). x * 16 ^ k) (sym (pow-suc 16 m)) ∙ sym (pow-add 16 (suc m) k) ∙ ap (λ (x : ℕ). 16 ^ x) (let e : suc m + k ≡ 16 = omega arith in e) in
    let high : h / 16 ^ k / 16 < 16 ^ m = (div-lt_iff_lt-mul {k = 16} (omega arith)).1 ((div-lt_iff_lt-mul (power_pos k)).1 (subst (λ (x : ℕ). h < x) (sym power) s)) in
    subst (λ (x : ℕ). x < 2 ^ 64) (sym (changed h k d))
    (subst (λ (x : ℕ). upper h k d * 16 ^ k + h % 16 ^ k < x) power (digits_lt (digits_lt high t) (mod-lt h (power_pos k))))

-- ---- who holds a lock

pub held-own : (h k w : ℕ) → w < 15 → holds (held_by h k w) w k ≡ true
unfolding holds
held-own h k w s = eq-eqb (digit_of (held_by h k w) k) (suc w) (digit-own h k (suc w) (omega arith))

-- Of another lock the holder stays.
same-holder : (h k d v j : ℕ) → d < 16 → (j ≡ k → ⊥) → holds (with_digit h k d) v j ≡ holds h v j
unfolding holds
same-holder h k d v j s n = ap (λ (x : ℕ). eqb x (suc v)) (digit-other h k d j s n)

pub held-other : (h k w v j : ℕ) → w < 15 → (j ≡ k → ⊥) → holds (held_by h k w) v j ≡ holds h v j
held-other h k w v j s n = same-holder h k (suc w) v j (omega arith) n

pub free-none : (h w k : ℕ) → unheld h k ≡ true → holds h w k ≡ false
unfolding unheld holds
free-none h w k e = let none = eqb-true (digit_of h k) 0 e in ne_eqb (digit_of h k) (suc w) (λ same. omega arith)

pub none_free : (h k : ℕ) → ((w : ℕ) → holds h w k ≡ false) → unheld h k ≡ true
unfolding unheld holds
none_free h k none =
    split (unheld h k) (λ t. t)
    (λ f.
    let some = eqb-false (digit_of h k) 0 f in
    let worker : digit_of h k ≡ suc (digit_of h k - 1) = omega (arith, some) in
    absurd (eqb-false (digit_of h k) (suc (digit_of h k - 1)) (none (digit_of h k - 1)) worker))

pub back-unheld : (h k : ℕ) → unheld (given_back h k) k ≡ true
unfolding unheld
back-unheld h k = eq-eqb (digit_of (given_back h k) k) 0 (digit-own h k 0 (omega arith))

pub back-own : (h k v : ℕ) → holds (given_back h k) v k ≡ false
back-own h k v = free-none (given_back h k) v k (back-unheld h k)

pub back-other : (h k v j : ℕ) → (j ≡ k → ⊥) → holds (given_back h k) v j ≡ holds h v j
back-other h k v j n = same-holder h k 0 v j (omega arith) n

-- A lock has at most one holder.
pub one-holder : (h w v k : ℕ) → holds h w k ≡ true → holds h v k ≡ true → w ≡ v
unfolding holds
one-holder h w v k a b = omega (arith, eqb-true (digit_of h k) (suc w) a, eqb-true (digit_of h k) (suc v) b)

-- Nobody holds a lock of the word 0.
pub none-held : (w k : ℕ) → holds 0 w k ≡ false
unfolding unheld
none-held w k = free-none 0 w k (eq-eqb (digit_of 0 k) 0 (digit-none k))

pub any_none : (h w : ℕ) → holds_any h w ≡ false → (k : ℕ) → k < 16 → holds h w k ≡ false
unfolding holds_any
any_none h w e = none-under 16 (holds h w) e

pub none_any : (h w : ℕ) → ((k : ℕ) → k < 16 → holds h w k ≡ false) → holds_any h w ≡ false
unfolding holds_any
none_any h w none = under_none 16 (holds h w) none

pub from-under : (h w : ℕ) → held_from h w ≡ false → (v k : ℕ) → k < 16 → holds h v k ≡ true → v < w
unfolding held_from holds
from-under h w e v k l t =
    omega (arith, eqb-true (digit_of h k) (suc v) t, ltb-false w (digit_of h k) (none-under 16 (λ i. ltb w (digit_of h i)) e k l))

pub under-from : (h w : ℕ) → ((v k : ℕ) → k < 16 → holds h v k ≡ true → v < w) → held_from h w ≡ false
unfolding held_from holds
under-from h w under = under_none 16 (λ i. ltb w (digit_of h i)) (λ k l. le-ltb w (digit_of h k) (at k l))
  where
    at : (k : ℕ) → k < 16 → digit_of h k ≤ w
    at k l =
        elim (dec_lt 0 (digit_of h k)) [
          | yes some ↦
              let worker : digit_of h k ≡ suc (digit_of h k - 1) = omega arith in
              omega (arith, under (digit_of h k - 1) k l (eq-eqb (digit_of h k) (suc (digit_of h k - 1)) worker))
          | no some ↦ omega arith
        ]

-- ---- a test of every lock

-- Some lock's digit passes a test.
abbrev pub any_digit : (ℕ → Bool) → ℕ → Bool
any_digit test h = any_under 16 (λ k. test (digit_of h k))

or_assoc : (a b c : Bool) → (a || b) || c ≡ a || (b || c)
or_assoc true b c = refl
or_assoc false b c = refl

pub or_off : (a b : Bool) → b ≡ false → a || b ≡ a
or_off true b e = refl
or_off false b e = e

-- The first number, and those after it, are tested apart.
pub any-shift : (n : ℕ) (f : ℕ → Bool) → any_under (suc n) f ≡ f 0 || any_under n (λ i. f (suc i))
unfolding any_under
any-shift zero f = sym (or_off (f 0) false refl)
any-shift (suc n) f = ap (λ (t : Bool). t || f (suc n)) (any-shift n f) ∙ or_assoc (f 0) (any_under n (λ i. f (suc i))) (f (suc n))

module _ (test : ℕ → Bool) (off : test 0 ≡ false) where
  -- The lowest digit, and those of the rest, are tested apart: past the sixteenth the digits are 0.
  any_next : (h : ℕ) → h < 2 ^ 64 → any_digit test h ≡ test (h % 16) || any_digit test (h / 16)
  unfolding any_under digit_of
  any_next h s =
      sym (or_off (any_digit test h) (test (digit_of h 16)) (ap test (digit-past h 16 s (omega arith)) ∙ off))
      ∙ any-shift 16 (λ k. test (digit_of h k))
      ∙ (λ i. test (div-one h i % 16) || any_under 16 (λ k. test (sym (digit-next h k) i)))

  -- A loop over the digits, from the lowest up: what was found and what is left.
  pub digits-on : (h rest : ℕ) (found : Bool) → rest < 2 ^ 64 → found || any_digit test rest ≡ any_digit test h
      → (found || test (rest % 16)) || any_digit test (rest / 16) ≡ any_digit test h
  digits-on h rest found s e =
      or_assoc found (test (rest % 16)) (any_digit test (rest / 16)) ∙ ap (λ (t : Bool). found || t) (sym (any_next rest s)) ∙ e

  pub digits-end : (h rest : ℕ) (found : Bool) → rest ≡ 0 → found || any_digit test rest ≡ any_digit test h → found ≡ any_digit test h
  digits-end h rest found z e =
      sym (or_off found (any_digit test rest) (under_none 16 (λ k. test (digit_of rest k)) (λ k l. ap (λ (x : ℕ). test (digit_of x k)) z ∙ ap test (digit-none k) ∙ off))) ∙ e
