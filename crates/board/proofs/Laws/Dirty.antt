-- Laws of the dirty lines: those with a marked cell, and how many they are.
use Prim.Native.Nat.{ℕ, suc, ◌+◌, ◌*◌, ◌/◌, ◌≤◌, ◌<◌}
use mathlib.Core.Path.{◌≡◌, refl, sym, ap, subst, ◌∙◌}
use mathlib.Core.List.{List}
use mathlib.Core.Bool.{Bool, true, false, ◌||◌}
use native.Mathlib.Omega.{arith}
use native.Mathlib.Decide.{ℕ_discrete}
use Rattle.predicate.specs.Passing.{count_under}
use Rattle.bitset.specs.Words.{empty, contains, inserted, size, strays}
use Rattle.predicate.proofs.Passing.{count-alike}
use Rattle.bitset.proofs.Members.{small-inserted, small-empty, none-strays, size-own}
use Rattle.bitset.proofs.Words.{contains-inserted, contains-other, length_inserted, empty-contains}
use Rattle.line.specs.Cell.{cell_line}
use Rattle.board.specs.Board.{Shape, cells}
use Rattle.board.specs.Location.{Location, cell, Has, line_for, changed_at}
use Rattle.board.proofs.Laws.View.{cell-one, put-at, put_other}
use Rattle.predicate.proofs.Bools.{clash, or-none}
use Rattle.board.proofs.Laws.Count.{at_each}
use Rattle.board.proofs.Invariant.{Dirty}

-- ---- the lines with a marked cell

or-on-left : (a b : Bool) → a ≡ true → a || b ≡ true
or-on-left a b e = ap (λ (t : Bool). t || b) e

or-on-right : (a b : Bool) → b ≡ true → a || b ≡ true
or-on-right true b e = refl
or-on-right false b e = e

-- A cell is one of the two of its line.
one_of_two : (marked : Location → Bool) (c : ℕ) → marked (cell c) ≡ true → marked (cell (2 * (c / 2))) || marked (cell (2 * (c / 2) + 1)) ≡ true
one_of_two marked c t =
    elim (ℕ_discrete c (2 * (c / 2))) [
      | yes e ↦ or-on-left (marked (cell (2 * (c / 2)))) (marked (cell (2 * (c / 2) + 1))) (subst (λ (k : ℕ). marked (cell k) ≡ true) e t)
      | no o ↦ or-on-right (marked (cell (2 * (c / 2)))) (marked (cell (2 * (c / 2) + 1))) (subst (λ (k : ℕ). marked (cell k) ≡ true) (let e : c ≡ 2 * (c / 2) + 1 = omega arith in e) t)
    ]

module _ {σ : Shape} (words : List ℕ) (marked : Location → Bool) (d : Dirty σ words marked) where
  -- They are cell lines.
  pub dirty-fine : strays words σ.lines ≡ false
  dirty-fine = none-strays words σ.lines d.small d.own

  -- "in the simple machine, that of the lines with a marked cell".
  pub dirty-count : σ.lines ≤ 511 → size words ≡ count_under σ.lines (λ i. marked (cell (2 * i)) || marked (cell (2 * i + 1)))
  dirty-count h = size-own words σ.lines dirty-fine (omega arith) ∙ count-alike σ.lines (λ i. contains words (suc i)) (λ i. marked (cell (2 * i)) || marked (cell (2 * i + 1))) d.lines

  -- A marked cell's line is dirty.
  pub marked-line : (u : Location) → Has σ u → marked u ≡ true → contains words (line_for u) ≡ true
  marked-line (cell c) h t =
      ap (contains words) (let e : cell_line c ≡ suc (c / 2) = omega arith in e) ∙ d.lines (c / 2) (omega arith) ∙ one_of_two marked c t

  -- A cell that is marked makes its line dirty, and no other.
  pub dirty-mark : (c : ℕ) → c < cells σ → σ.lines ≤ 511 → Dirty σ (inserted words (cell_line c)) (changed_at marked (cell c) true)
  dirty-mark c h most =
      record {
        eight = length_inserted words (cell_line c) ∙ d.eight;
        small = small-inserted words (cell_line c) d.small;
        lines = at_each (λ (i : ℕ). i < σ.lines → contains set (suc i) ≡ now (cell (2 * i)) || now (cell (2 * i + 1))) (c / 2) here other;
        own =
            at_each (λ (i : ℕ). contains set i ≡ true → (1 ≤ i) × (i ≤ σ.lines)) (cell_line c) (λ t. (omega arith, omega arith))
            (λ i o t. d.own i (sym (contains-other words (cell_line c) i (λ e. o (sym e))) ∙ t));
      }
    where
      set : List ℕ
      set = inserted words (cell_line c)

      now : Location → Bool
      now = changed_at marked (cell c) true

      same : (e : ℕ) → (c ≡ e → ⊥) → now (cell e) ≡ marked (cell e)
      same e o = put_other marked (cell c) true (cell e) (λ q. o (cell-one q))

      here : c / 2 < σ.lines → contains set (suc (c / 2)) ≡ now (cell (2 * (c / 2))) || now (cell (2 * (c / 2) + 1))
      here b =
          ap (contains set) (let e : suc (c / 2) ≡ cell_line c = omega arith in e)
          ∙ contains-inserted words (cell_line c) (omega (arith, d.eight))
          ∙ sym (one_of_two now c (put-at marked (cell c) true))

      other : (i : ℕ) → (c / 2 ≡ i → ⊥) → i < σ.lines → contains set (suc i) ≡ now (cell (2 * i)) || now (cell (2 * i + 1))
      other i o b =
          contains-other words (cell_line c) (suc i) (λ e. omega arith)
          ∙ d.lines i b
          ∙ sym (λ k. same (2 * i) (λ e. omega arith) k || same (2 * i + 1) (λ e. omega arith) k)

-- Where no cell is marked no line is dirty.
pub dirty-none : (σ : Shape) (marked : Location → Bool) → ((u : Location) → marked u ≡ false) → Dirty σ empty marked
dirty-none σ marked none =
    record {
      eight = refl;
      small = small-empty;
      lines = λ i h. empty-contains (suc i) ∙ sym (or-none (marked (cell (2 * i))) (marked (cell (2 * i + 1))) (none (cell (2 * i))) (none (cell (2 * i + 1))));
      own = λ i t. absurd (clash t (empty-contains i));
    }

-- So a record with no dirty line passes its test of them.
pub empty-fine : (σ : Shape) (words : List ℕ) → words ≡ empty → strays words σ.lines ≡ false
empty-fine σ words e =
    subst (λ (ws : List ℕ). strays ws σ.lines ≡ false) (sym e) (dirty-fine empty (λ c. false) (dirty-none σ (λ c. false) (λ c. refl)))
