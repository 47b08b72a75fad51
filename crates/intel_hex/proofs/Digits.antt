-- The digits that characters stand for, case by case.
use Prim.Native.Nat.{ℕ, ◌+◌, ◌*◌, ◌-◌, ◌/◌, ◌%◌, ◌≤◌, ◌<◌}
use mathlib.Core.Path.{◌≡◌, refl, sym, ◌∙◌}
use mathlib.Core.List.{List}
use mathlib.Core.Bool.{Bool, true, false, not, ◌&&◌}
use native.Mathlib.Omega.{arith}
use lib.Dec.{leb, ltb, eqb}
use lib.ListN.{get_or}
use borrow.Author.Tests.{leb-true, ltb-true, eqb-true}
use Rattle.predicate.specs.Passing.{any_under}
use Rattle.predicate.proofs.Bools.{chosen, passed_over, split, and_left, and_right, not-off}
use Rattle.predicate.proofs.Passing.{none-under}
use Rattle.text.specs.Ascii.{'0', '9', 'A', 'F', 'a', 'f'}
use Rattle.board.specs.Hex.{hex_digit, byte_of}

-- A character stands between two others.
abbrev pub between : ℕ → ℕ → ℕ → Bool
between low high c = leb low c && leb c high

-- Then it does so as a number.
pub inside : (low high c : ℕ) → between low high c ≡ true → (low ≤ c) × (c ≤ high)
inside low high c e = (leb-true low c (and_left (leb low c) (leb c high) e), leb-true c high (and_right (leb low c) (leb c high) e))

module _ (c : ℕ) where
  -- A decimal digit.
  pub decimal : between '0' '9' c ≡ true → hex_digit c ≡ c - '0'
  decimal e = chosen (between '0' '9' c) _ _ e

  -- An upper-case one.
  pub upper : between '0' '9' c ≡ false → between 'A' 'F' c ≡ true → hex_digit c ≡ c - 'A' + 10
  upper d e = passed_over (between '0' '9' c) _ _ d ∙ chosen (between 'A' 'F' c) _ _ e

  -- A lower-case one.
  pub lower : between '0' '9' c ≡ false → between 'A' 'F' c ≡ false → between 'a' 'f' c ≡ true → hex_digit c ≡ c - 'a' + 10
  lower d u e = passed_over (between '0' '9' c) _ _ d ∙ passed_over (between 'A' 'F' c) _ _ u ∙ chosen (between 'a' 'f' c) _ _ e

  -- None.
  pub no_digit : between '0' '9' c ≡ false → between 'A' 'F' c ≡ false → between 'a' 'f' c ≡ false → hex_digit c ≡ 16
  no_digit d u l = passed_over (between '0' '9' c) _ _ d ∙ passed_over (between 'A' 'F' c) _ _ u ∙ passed_over (between 'a' 'f' c) _ _ l

  -- A digit is at most 15, and 16 stands for none.
  pub digit-most : hex_digit c ≤ 16
  digit-most =
      split (between '0' '9' c) (λ d. omega (arith, inside '0' '9' c d, decimal d))
      (λ d. split (between 'A' 'F' c) (λ u. omega (arith, inside 'A' 'F' c u, upper d u))
      (λ u. split (between 'a' 'f' c) (λ l. omega (arith, inside 'a' 'f' c l, lower d u l)) (λ l. omega (arith, no_digit d u l))))

  -- Letters of either case stand at the same places of two rows of 64 characters.
  pub digit-place : hex_digit c < 16 → c % 16 + 9 * (c / 64) ≡ hex_digit c
  digit-place h =
      split (between '0' '9' c) (λ d. omega (arith, inside '0' '9' c d, decimal d))
      (λ d. split (between 'A' 'F' c) (λ u. omega (arith, inside 'A' 'F' c u, upper d u))
      (λ u. split (between 'a' 'f' c) (λ l. omega (arith, inside 'a' 'f' c l, lower d u l)) (λ l. absurd (omega (arith, no_digit d u l)))))

  -- A digit stands below character 128.
  pub digit-under : hex_digit c < 16 → c < 128
  digit-under h =
      split (between '0' '9' c) (λ d. omega (arith, inside '0' '9' c d))
      (λ d. split (between 'A' 'F' c) (λ u. omega (arith, inside 'A' 'F' c u))
      (λ u. split (between 'a' 'f' c) (λ l. omega (arith, inside 'a' 'f' c l)) (λ l. absurd (omega (arith, no_digit d u l)))))

-- A table that passes the test at each byte has the digits.
pub digit-table : (table : List ℕ) → any_under 256 (λ c. not (eqb (get_or table c 0) (hex_digit c))) ≡ false → (c : ℕ) → c < 256 → get_or table c 0 ≡ hex_digit c
digit-table table t c h = eqb-true (get_or table c 0) (hex_digit c) (not-off _ (none-under 256 (λ c. not (eqb (get_or table c 0) (hex_digit c))) t c h))

-- Two digits write a byte.
pub digits-write : (high low : ℕ) {h l : ℕ} → h ≡ hex_digit high → l ≡ hex_digit low → ltb h 16 && ltb l 16 ≡ true → 16 * h + l ≡ byte_of high low
unfolding byte_of
digits-write high low {h} {l} p q e = (λ i. 16 * p i + q i) ∙ sym (chosen _ _ _ (sym (λ i. ltb (p i) 16 && ltb (q i) 16) ∙ e))

-- Two characters that are not both digits write none.
pub none_written_lem : (high low : ℕ) {h l : ℕ} → h ≡ hex_digit high → l ≡ hex_digit low → ltb h 16 && ltb l 16 ≡ false → 256 ≡ byte_of high low
unfolding byte_of
none_written_lem high low {h} {l} p q e = sym (passed_over _ _ _ (sym (λ i. ltb (p i) 16 && ltb (q i) 16) ∙ e))

module _ (high low : ℕ) where
  abbrev both : Bool
  both = ltb (hex_digit high) 16 && ltb (hex_digit low) 16

  -- Both are digits.
  both-digits : both ≡ true → (hex_digit high < 16) × (hex_digit low < 16)
  both-digits e =
      let h = ltb (hex_digit high) 16 in
      let l = ltb (hex_digit low) 16 in
      (ltb-true (hex_digit high) 16 (and_left h l e), ltb-true (hex_digit low) 16 (and_right h l e))

  -- A byte is written by two digits.
  pub by_digits : byte_of high low < 256 → (hex_digit high < 16) × (hex_digit low < 16) × (byte_of high low ≡ 16 * hex_digit high + hex_digit low)
  by_digits h =
      split both (λ e. ((both-digits e).0, (both-digits e).1, sym (digits-write high low refl refl e))) (λ e. absurd (omega (arith, none_written_lem high low refl refl e)))
