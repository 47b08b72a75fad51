-- Laws of eight words of which one has a number past a last one.
use Prim.Native.Nat.{ℕ, zero, suc, ◌+◌, ◌-◌, ◌*◌, ◌/◌, ◌%◌, ◌^◌, ◌≤◌, ◌<◌}
use mathlib.Core.Path.{◌≡◌, refl, sym, ap, ◌∙◌}
use mathlib.Core.List.{List, [], ◌∷◌}
use mathlib.Core.Bool.{Bool, false, not}
use native.Mathlib.Omega.{arith}
use native.Mathlib.Decide.{ℕ_discrete, dec_lt}
use native.Mathlib.Nat.{div-one, div-eq_of_lt, lt_of_lt_of_le}
use lib.Dec.{ltb, eqb}
use lib.ListN.{length, drop, get_or, get_or-eq_default}
use lib.Seq.{get_or-drop}
use lib.Bits.{bit_or, bit_and, or_zero_l, or_add_and, and_le_l, and_le_r}
use lib.Pow.{shr-shr, pow_mono}
use borrow.Author.Tests.{ltb-false, le-ltb, eqb-true, eqb-false}
use Rattle.predicate.proofs.Bools.{split, not-to, not_on_lem}
use Rattle.predicate.specs.Passing.{any_under}
use Rattle.predicate.proofs.Passing.{none-under, under_none}

-- Words united, one after the other.
abbrev pub united : ℕ → List ℕ → ℕ
united x [] = x
united x (y ∷ ys) = united (bit_or x y) ys

-- A union that is 0 is of zeros.
or-zero : (x y : ℕ) → bit_or x y ≡ 0 → (x ≡ 0) × (y ≡ 0)
or-zero x y e =
    let sum = or_add_and x y in
    let left = and_le_l x y in
    let right = and_le_r x y in
    let bits : bit_and x y ≡ x + y = omega arith in
    (omega arith, omega arith)

united-zero : (x : ℕ) (ys : List ℕ) → united x ys ≡ 0 → (x ≡ 0) × ((i : ℕ) → get_or ys i 0 ≡ 0)
united-zero x [] e = (e, λ i. refl)
united-zero x (y ∷ ys) e =
    let rest = united-zero (bit_or x y) ys e in
    let both = or-zero x y rest.0 in
    (both.0, each both.1 rest.1)
  where
    each : y ≡ 0 → ((i : ℕ) → get_or ys i 0 ≡ 0) → (i : ℕ) → get_or (y ∷ ys) i 0 ≡ 0
    each h t zero = h
    each h t (suc i) = t i

zeros-united : (x : ℕ) (ys : List ℕ) → x ≡ 0 → ((i : ℕ) → get_or ys i 0 ≡ 0) → united x ys ≡ 0
zeros-united x [] e none = e
zeros-united x (y ∷ ys) e none =
    zeros-united (bit_or x y) ys (ap (λ (k : ℕ). bit_or k y) e ∙ or_zero_l y ∙ none 0) (λ i. none (suc i))

module _ (words : List ℕ) (last : ℕ) (small : (k : ℕ) → get_or words k 0 < 2 ^ 64) (eight : length words ≡ 8) where
  -- Word `k` has a number past `last`.
  abbrev word_past : ℕ → Bool
  word_past k = ltb 0 (get_or words k 0 / 2 ^ (last + 1 - 64 * k))

  cleared : (k : ℕ) → get_or words k 0 / 2 ^ (last + 1 - 64 * k) ≡ 0 → word_past k ≡ false
  cleared k e = le-ltb 0 (get_or words k 0 / 2 ^ (last + 1 - 64 * k)) (omega arith)

  -- Every number of a word before that of `last` is at most `last`.
  before_last : (k : ℕ) → 64 * k + 63 ≤ last → get_or words k 0 / 2 ^ (last + 1 - 64 * k) ≡ 0
  before_last k h =
      div-eq_of_lt (lt_of_lt_of_le (small k) (pow_mono (let l : 64 ≤ last + 1 - 64 * k = omega arith in l)))

  -- Every number of a word after it is past `last`.
  after_last_lem : (k : ℕ) → last < 64 * k → get_or words k 0 / 2 ^ (last + 1 - 64 * k) ≡ get_or words k 0
  after_last_lem k h = ap (λ (m : ℕ). get_or words k 0 / 2 ^ m) (let e : last + 1 - 64 * k ≡ 0 = omega arith in e) ∙ div-one (get_or words k 0)

  -- Of its own word those are that are left when it is shifted down.
  at_last : (k : ℕ) → last / 64 ≡ k → get_or words k 0 / 2 ^ (last + 1 - 64 * k) ≡ get_or words k 0 / 2 ^ (last % 64) / 2
  at_last k e =
      ap (λ (m : ℕ). get_or words k 0 / 2 ^ m) (let m : last + 1 - 64 * k ≡ last % 64 + 1 = omega arith in m)
      ∙ sym (shr-shr (get_or words k 0) (last % 64) 1)

  -- No word has one where `last` stands after them all.
  pub past-none : 8 ≤ last / 64 → false ≡ any_under 8 word_past
  past-none h = sym (under_none 8 word_past (λ k l. cleared k (before_last k (omega arith))))

  module _ (k : ℕ) (own : last / 64 ≡ k) (inside : k < 8) where
    abbrev rest : ℕ
    rest = united (get_or words k 0 / 2 ^ (last % 64) / 2) (drop (suc k) words)

    none-past : rest ≡ 0 → any_under 8 word_past ≡ false
    none-past e =
        let zero-each = united-zero (get_or words k 0 / 2 ^ (last % 64) / 2) (drop (suc k) words) e in
        under_none 8 word_past
        (λ j h.
        elim (dec_lt j k) [
          | yes l ↦ cleared j (before_last j (omega arith))
          | no l ↦
              elim (ℕ_discrete j k) [
                | yes s ↦ cleared j (at_last j (own ∙ sym s) ∙ ap (λ (i : ℕ). get_or words i 0 / 2 ^ (last % 64) / 2) s ∙ zero-each.0)
                | no s ↦
                    let after : suc k + (j - suc k) ≡ j = omega (arith, s) in
                    cleared j (after_last_lem j (omega (arith, s)) ∙ ap (λ (i : ℕ). get_or words i 0) (sym after) ∙ sym (get_or-drop (suc k) words (j - suc k) 0) ∙ zero-each.1 (j - suc k))
              ]
        ])

    past-none-rest : any_under 8 word_past ≡ false → rest ≡ 0
    past-none-rest t =
        let clear : (j : ℕ) → j < 8 → get_or words j 0 / 2 ^ (last + 1 - 64 * j) ≡ 0 =
        λ j h. at_most (ltb-false 0 (get_or words j 0 / 2 ^ (last + 1 - 64 * j)) (none-under 8 word_past t j h)) in
        zeros-united (get_or words k 0 / 2 ^ (last % 64) / 2) (drop (suc k) words)
        (sym (at_last k own) ∙ clear k inside)
        (λ i.
        get_or-drop (suc k) words i 0
        ∙ elim (dec_lt (suc k + i) 8) [
          | yes l ↦ sym (after_last_lem (suc k + i) (omega arith)) ∙ clear (suc k + i) l
          | no l ↦ get_or-eq_default words 0 (let o : length words ≤ suc k + i = omega arith in o)
        ])
      where
        at_most : {n : ℕ} → n ≤ 0 → n ≡ 0
        at_most h = omega arith

    -- So one of them has one where the words from its own on, that one shifted down, do not unite to 0.
    pub past-rest : not (eqb rest 0) ≡ any_under 8 word_past
    past-rest =
        split (eqb rest 0)
        (λ t. not_on_lem (eqb rest 0) t ∙ sym (none-past (eqb-true rest 0 t)))
        (λ t.
        split (any_under 8 word_past)
        (λ u. not-to (eqb rest 0) t ∙ sym u)
        (λ u. absurd (eqb-false rest 0 t (past-none-rest u))))
