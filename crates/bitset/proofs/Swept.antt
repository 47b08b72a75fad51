-- Laws of a word whose set bits are cleared one after the other, the lowest first.
use Prim.Native.Nat.{ℕ, zero, suc, ◌+◌, ◌-◌, ◌*◌, ◌/◌, ◌%◌, ◌^◌, ◌≤◌, ◌<◌}
use mathlib.Core.Path.{◌≡◌, sym, ap, ap₂, ◌∙◌}
use mathlib.Core.Bool.{true, false}
use native.Mathlib.Omega.{arith}
use native.Mathlib.Decide.{dec_lt}
use native.Mathlib.Nat.{add-zero, add-suc, add-mul, one-mul, mul_assoc, mul_comm, div-one, mul-one, pow-suc}
use lib.Pow.{pow_pos, pow-lt, pow-add, ones_lt, shl-shr, shr-shr}
use lib.Bits.{bit_and, and_block, and_self, and_shifted, shifted_even}
use lib.Dec.{eqb}
use lib.Count.{count_trailing_zeros}
use borrow.Author.Tests.{eqb-true, eqb-false}
use Rattle.predicate.proofs.Bools.{split}
use Rattle.predicate.specs.Passing.{count_under, nth_under}
use Rattle.bitset.specs.Words.{bit_of}
use Rattle.predicate.proofs.Passing.{Nth, one_on, count_next, count_past, count-mono, count_less, nth-found, nth-unique}
use Rattle.bitset.proofs.Bits.{bit-shift, trailing}

-- The word with the bits below `at` cleared.
abbrev pub kept : ℕ → ℕ → ℕ
kept w at = w / 2 ^ at * 2 ^ at

-- Those are clear.
kept-below : (w at i : ℕ) → i < at → bit_of (kept w at) i ≡ false
unfolding bit_of
kept-below w at i h =
    let a = w / 2 ^ at in
    let m = at - suc i in
    let far : at ≡ suc m + i = omega arith in
    let same : a * 2 ^ at ≡ a * 2 ^ suc m * 2 ^ i = ap (λ (x : ℕ). a * 2 ^ x) far ∙ ap (λ (x : ℕ). a * x) (pow-add 2 (suc m) i) ∙ sym (mul_assoc a (2 ^ suc m) (2 ^ i)) in
    ap (λ (x : ℕ). eqb (x / 2 ^ i % 2) 1) same
    ∙ ap (λ (x : ℕ). eqb (x % 2) 1) (shl-shr (a * 2 ^ suc m) i)
    ∙ ap (λ (x : ℕ). eqb x 1) (shifted_even a m)

-- The others are the word's own.
kept_from : (w at j : ℕ) → bit_of (kept w at) (at + j) ≡ bit_of w (at + j)
kept_from w at j = sym (bit-shift (kept w at) at j) ∙ ap (λ (x : ℕ). bit_of x j) (shl-shr (w / 2 ^ at) at) ∙ bit-shift w at j

-- Half of the word shifted down to bit `i`.
half : (w i : ℕ) → w / 2 ^ i / 2 ≡ w / 2 ^ suc i
half w i = shr-shr w i 1 ∙ ap (λ (k : ℕ). w / 2 ^ k) (let e : i + 1 ≡ suc i = omega arith in e)

off : (w i : ℕ) → bit_of w i ≡ false → w / 2 ^ i % 2 ≡ 0
unfolding bit_of
off w i t = let odd = eqb-false (w / 2 ^ i % 2) 1 t in omega arith

on : (w i : ℕ) → bit_of w i ≡ true → w / 2 ^ i % 2 ≡ 1
unfolding bit_of
on w i t = eqb-true (w / 2 ^ i % 2) 1 t

-- Twice a number, shifted up.
twice : (a i : ℕ) → a * 2 * 2 ^ i ≡ a * 2 ^ suc i
twice a i = mul_assoc a 2 (2 ^ i) ∙ ap (λ (x : ℕ). a * x) (mul_comm 2 (2 ^ i) ∙ sym (pow-suc 2 i))

-- A bit that is clear need not be cleared.
kept-skip : (w i : ℕ) → bit_of w i ≡ false → kept w i ≡ kept w (suc i)
kept-skip w i t =
    let even : w / 2 ^ i ≡ w / 2 ^ i / 2 * 2 = omega (arith, off w i t) in
    ap (λ (x : ℕ). x * 2 ^ i) (even ∙ ap (λ (x : ℕ). x * 2) (half w i)) ∙ twice (w / 2 ^ suc i) i

kept-past : (w at d : ℕ) → ((i : ℕ) → i < d → bit_of w (at + i) ≡ false) → kept w at ≡ kept w (at + d)
kept-past w at zero none = ap (kept w) (sym (add-zero at))
kept-past w at (suc d) none =
    kept-past w at d (λ i h. none i (omega arith)) ∙ kept-skip w (at + d) (none d (omega arith)) ∙ ap (kept w) (sym (add-suc at d))

-- The word from a set bit on has that bit for its lowest.
kept_set : (w q : ℕ) → bit_of w q ≡ true → kept w q ≡ w / 2 ^ suc q * 2 ^ suc q + 2 ^ q
kept_set w q t =
    let odd : w / 2 ^ q ≡ w / 2 ^ q / 2 * 2 + 1 = omega (arith, on w q t) in
    ap (λ (x : ℕ). x * 2 ^ q) (odd ∙ ap (λ (x : ℕ). x * 2 + 1) (half w q))
    ∙ add-mul (w / 2 ^ suc q * 2) 1 (2 ^ q)
    ∙ ap₂ (λ (x y : ℕ). x + y) (twice (w / 2 ^ suc q) q) (one-mul (2 ^ q))

-- One less has it clear and those below it set, so that both have only the bits after it.
kept-clear : (w q : ℕ) → bit_of w q ≡ true → bit_and (kept w q) (kept w q - 1) ≡ kept w (suc q)
kept-clear w q t =
    let h = w / 2 ^ suc q in
    let less : kept w q - 1 ≡ h * 2 ^ suc q + (2 ^ q - 1) = omega (arith, kept_set w q t, pow_pos q) in
    let low : bit_and (2 ^ q) (2 ^ q - 1) ≡ 0 = ap (λ (x : ℕ). bit_and x (2 ^ q - 1)) (sym (one-mul (2 ^ q))) ∙ and_shifted 1 q (2 ^ q - 1) (ones_lt q) in
    ap₂ bit_and (kept_set w q t) less
    ∙ and_block (suc q) h h (2 ^ q) (2 ^ q - 1) (pow-lt (omega arith)) (omega (arith, ones_lt q, pow-suc 2 q))
    ∙ ap₂ (λ (x y : ℕ). x * 2 ^ suc q + y) (and_self h) low
    ∙ add-zero (h * 2 ^ suc q)

-- ---- the search for bit `p`

-- Of the word `rest` is left, with the bits below some `at` cleared; `left` set bits are still to be cleared, and the others of the `p` stand below `at`.
pub record Swept (w p rest left : ℕ) : Type 0 where
  pub at : ℕ
  pub holds : rest ≡ kept w at
  pub passed : count_under at (bit_of w) + left ≡ p

pub swept_none : (w p : ℕ) → Swept w p w p
unfolding count_under
swept_none w p = record { at = 0; holds = sym (mul-one (w / 1) ∙ div-one w); passed = omega arith }

-- The lowest bit that is left.
pub record Lowest (w p rest left q : ℕ) : Type 0 where
  pub found : Nth 64 (bit_of w) (p - left) q
  pub holds : rest ≡ kept w q

module _ (w p rest left : ℕ) (h : p < count_under 64 (bit_of w)) (s : Swept w p rest left) where
  abbrev next : ℕ
  next = nth_under 64 (bit_of w) (p - left)

  -- No set bit stands before the next one.
  between : (q : ℕ) → count_under q (bit_of w) ≡ count_under s.at (bit_of w) → (i : ℕ) → s.at ≤ i → i < q → bit_of w i ≡ false
  between q rank i l b =
      split (bit_of w i)
      (λ t. absurd (omega (arith, count_less i q (bit_of w) b t, count-mono s.at i (bit_of w) l)))
      (λ t. t)

  pub swept-lowest : Lowest w p rest left next
  swept-lowest =
      let found = nth-found 64 (bit_of w) (p - left) (omega arith) in
      let rank : count_under next (bit_of w) ≡ count_under s.at (bit_of w) = omega (arith, found.rank, s.passed) in
      let from : s.at ≤ next =
      elim (dec_lt next s.at) [ yes b ↦ absurd (omega (arith, count_less next s.at (bit_of w) b found.passes)) | no b ↦ omega arith ] in
      let far : s.at + (next - s.at) ≡ next = omega arith in
      record {
        found = found;
        holds = s.holds ∙ kept-past w s.at (next - s.at) (λ i b. between next rank (s.at + i) (omega arith) (omega arith)) ∙ ap (kept w) far;
      }

  -- It is as far up as there are zeros below it.
  pub swept-zeros : count_trailing_zeros 64 rest ≡ next
  unfolding count_under
  swept-zeros =
      let low = swept-lowest in
      let none : count_under next (bit_of (kept w next)) ≡ 0 = count_past 0 next (bit_of (kept w next)) (omega arith) (λ i l b. kept-below w next i b) in
      let own : bit_of (kept w next) next ≡ true =
      ap (bit_of (kept w next)) (sym (add-zero next)) ∙ kept_from w next 0 ∙ ap (bit_of w) (add-zero next) ∙ low.found.passes in
      ap (count_trailing_zeros 64) low.holds ∙ trailing 64 (kept w next)
      ∙ sym (nth-unique 64 (bit_of (kept w next)) 0 next (record { passes = own; rank = none; within = low.found.within }))

  -- What is left is not 0.
  pub swept-some : 0 < rest
  swept-some = let low = swept-lowest in omega (arith, low.holds, kept_set w next low.found.passes, pow_pos next)

  -- It is cleared.
  pub swept-on : 0 < left → Swept w p (bit_and rest (rest - 1)) (left - 1)
  swept-on some =
      let low = swept-lowest in
      record {
        at = suc next;
        holds = ap (λ (x : ℕ). bit_and x (x - 1)) low.holds ∙ kept-clear w next low.found.passes;
        passed = omega (arith, count_next next (bit_of w), one_on (bit_of w next) low.found.passes, low.found.rank, s.passed);
      }
