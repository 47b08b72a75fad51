-- Laws of a set of numbers from 1 to a last one.
use Prim.Native.Nat.{ℕ, suc, ◌+◌, ◌-◌, ◌*◌, ◌/◌, ◌%◌, ◌^◌, ◌≤◌, ◌<◌}
use mathlib.Core.Path.{◌≡◌, refl, sym, subst, ◌∙◌}
use mathlib.Core.List.{List}
use mathlib.Core.Bool.{Bool, true, false}
use native.Mathlib.Omega.{arith}
use native.Mathlib.Decide.{ℕ_discrete, dec_lt}
use lib.Dec.{ltb}
use lib.ListN.{length, get_or, set, get_or-replicate}
use lib.Seq.{set_out, get_or-set_same, get_or-set_other}
use borrow.Author.Tests.{ltb-false, le-ltb}
use Rattle.predicate.proofs.Bools.{split, clash, or_left, or_right, or-none}
use Rattle.predicate.specs.Passing.{any_under, count_under}
use Rattle.bitset.specs.Words.{bit_of, with_bit, capacity, empty, contains, inserted, size, nth, strays}
use Rattle.predicate.proofs.Passing.{none-under, under_none, one-off, count_most, count-shift, count_past, Nth, nth-found}
use Rattle.bitset.proofs.Bits.{with-small, none_from, from-none}
use Rattle.bitset.proofs.Words.{contains-word, size-count}

-- The words are words of 64 bits.
abbrev pub Small : List ℕ → Type 0
Small words = (k : ℕ) → k < 8 → get_or words k 0 < 2 ^ 64

-- A number that is put in leaves them so.
pub small-inserted : (words : List ℕ) (i : ℕ) → Small words → Small (inserted words i)
unfolding inserted
small-inserted words i small k h =
    elim (ℕ_discrete (i / 64) k) [
      | yes e ↦ subst (λ (j : ℕ). get_or (set words (i / 64) put) j 0 < 2 ^ 64) e (here (omega arith))
      | no o ↦ subst (λ (x : ℕ). x < 2 ^ 64) (sym (get_or-set_other words (i / 64) k put 0 (λ e. o (sym e)))) (small k h)
    ]
  where
    put : ℕ
    put = with_bit (get_or words (i / 64) 0) (i % 64)

    here : i / 64 < 8 → get_or (set words (i / 64) put) (i / 64) 0 < 2 ^ 64
    here l =
        elim (dec_lt (i / 64) (length words)) [
          | yes r ↦ subst (λ (x : ℕ). x < 2 ^ 64) (sym (get_or-set_same words (i / 64) put 0 r)) (with-small (get_or words (i / 64) 0) (i % 64) (small (i / 64) l) (omega arith))
          | no r ↦ subst (λ (ws : List ℕ). get_or ws (i / 64) 0 < 2 ^ 64) (sym (set_out words (i / 64) put (omega arith))) (small (i / 64) l)
        ]

-- The words of the empty set.
pub small-empty : Small empty
small-empty k h = subst (λ (x : ℕ). x < 2 ^ 64) (sym (get_or-replicate 8 k 0 0 h)) (omega arith)

-- Word and bit of a number below 512.
at-bit : (words : List ℕ) (i : ℕ) → contains words i ≡ bit_of (get_or words (i / 64) 0) (i % 64)
unfolding contains
at-bit words i = refl

module _ (words : List ℕ) (last : ℕ) where
  -- A set that does not stray has numbers from 1 to `last` alone.
  pub stray-none : strays words last ≡ false → (i : ℕ) → i < capacity → contains words i ≡ true → (1 ≤ i) × (i ≤ last)
  unfolding strays
  stray-none fine i h t =
      let k = i / 64 in
      let past : ℕ → Bool = λ k. ltb 0 (get_or words k 0 / 2 ^ (last + 1 - 64 * k)) in
      let none : past k ≡ false = none-under 8 past (or_right (bit_of (get_or words 0 0) 0) (any_under 8 past) fine) k (omega arith) in
      let clear : get_or words k 0 / 2 ^ (last + 1 - 64 * k) ≡ 0 = at-most-none (ltb-false 0 (get_or words k 0 / 2 ^ (last + 1 - 64 * k)) none) in (
        elim (ℕ_discrete i 0) [
          | yes z ↦ absurd (clash (subst (λ (j : ℕ). contains words j ≡ true) z t) (at-bit words 0 ∙ or_left (bit_of (get_or words 0 0) 0) (any_under 8 past) fine))
          | no o ↦ omega arith
        ],
        elim (dec_lt last i) [
          | yes b ↦ absurd (clash t (at-bit words i ∙ from-none (last + 1 - 64 * k) (get_or words k 0) (i % 64) clear (omega arith)))
          | no b ↦ omega arith
        ],
      )
    where
      at-most-none : {n : ℕ} → n ≤ 0 → n ≡ 0
      at-most-none h = omega arith

  -- And the other way round, of words of 64 bits.
  pub none-strays : Small words → ((i : ℕ) → contains words i ≡ true → (1 ≤ i) × (i ≤ last)) → strays words last ≡ false
  unfolding strays
  none-strays small own =
      or-none (bit_of (get_or words 0 0) 0) _ first
      (under_none 8 (λ k. ltb 0 (get_or words k 0 / 2 ^ (last + 1 - 64 * k)))
      (λ k h. le-ltb 0 (get_or words k 0 / 2 ^ (last + 1 - 64 * k))
      (none-most (none_from (last + 1 - 64 * k) (get_or words k 0) (small k h)
      (λ b p q. split (bit_of (get_or words k 0) b) (λ t. absurd (omega (arith, (own (64 * k + b) (contains-word words k b q ∙ t)).1))) (λ f. f))))))
    where
      none-most : {n : ℕ} → n ≡ 0 → n ≤ 0
      none-most e = omega arith

      first : bit_of (get_or words 0 0) 0 ≡ false
      first = split (bit_of (get_or words 0 0) 0) (λ t. absurd (omega (arith, (own 0 (at-bit words 0 ∙ t)).0))) (λ f. f)

module _ (words : List ℕ) (last : ℕ) (fine : strays words last ≡ false) where
  -- The p-th number of such a set, with as many before it.
  pub nth-own : (p : ℕ) → p < size words → Nth capacity (contains words) p (nth words p) × (1 ≤ nth words p) × (nth words p ≤ last)
  unfolding nth
  nth-own p h =
      let found = nth-found capacity (contains words) p (omega (arith, size-count words)) in
      let own = stray-none words last fine (nth words p) found.within found.passes in
      (found, own.0, own.1)

  -- No other number is in it.
  unset : (i : ℕ) → i < capacity → ((1 ≤ i) × (i ≤ last) → ⊥) → contains words i ≡ false
  unset i h o = split (contains words i) (λ t. absurd (o (stray-none words last fine i h t))) (λ f. f)

  -- Its numbers are counted from 1 to `last`.
  pub size-own : last < capacity → size words ≡ count_under last (λ i. contains words (suc i))
  size-own h =
      size-count words
      ∙ count_past (suc last) capacity (contains words) (omega arith) (λ i p q. unset i q (λ r. omega (arith, r.1)))
      ∙ count-shift last (contains words)
      ∙ omega (arith, one-off (contains words 0) (unset 0 (omega arith) (λ r. omega (arith, r.0))))

  -- There are at most `last` of them.
  pub size-most : last < capacity → size words ≤ last
  size-most h = omega (arith, size-own h, count_most last (λ i. contains words (suc i)))
