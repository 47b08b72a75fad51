-- Two rows that differ at one recovery place alone: in the locations that have one log, and in no other word.
use Prim.Native.Nat.{ℕ, ◌+◌, ◌≤◌, ◌<◌}
use mathlib.Core.Path.{◌≡◌, refl}
use mathlib.Core.List.{List}
use native.Mathlib.Decide.{ℕ_discrete}
use lib.ListN.{length, get_or}
use Rattle.line.specs.declared.Field.{Field}
use Rattle.line.specs.Line.{line_start}
use Rattle.line.specs.Cell.{with_field}
use Rattle.line.proofs.Laws.{length-with_field, header-with_field, spare-with_field}
use Rattle.board.specs.Board.{Shape}
use Rattle.board.specs.Location.{Location, cell, Has}
use Rattle.board.proofs.Laws.View.{view, view-other, place_of}

-- At most the views of the locations at place `p` differ between two rows.
pub record OnlyAt (σ : Shape) (p : ℕ) (row row' : List ℕ) : Type 0 where
  pub others : (u : Location) → Has σ u → (place_of u ≡ p → ⊥) → view row' u ≡ view row u
  pub header : (k : ℕ) → k < 8 → get_or row' k 0 ≡ get_or row k 0
  pub spare : (i k : ℕ) → 6 ≤ k → k < 8 → get_or row' (line_start i + k) 0 ≡ get_or row (line_start i + k) 0
  pub size : length row' ≡ length row

-- No view differs.
pub only_none : (σ : Shape) (p : ℕ) (row : List ℕ) → OnlyAt σ p row row
only_none σ p row = record { others = λ u h o. refl; header = λ k h. refl; spare = λ i k p q. refl; size = refl }

-- A store in a cell changes that cell's view only.
pub only_store : (σ : Shape) (row : List ℕ) (c : ℕ) (f : Field) (v : ℕ) → Has σ (cell c) → OnlyAt σ c row (with_field row c f v)
only_store σ row c f v h =
    record {
      others = view-other σ row c f v h;
      header = header-with_field row c f v;
      spare = spare-with_field row c f v;
      size = length-with_field row c f v;
    }

-- What holds at one place and at every other holds of each location.
pub at_places {ℓ} : (P : Location → Type ℓ) (p : ℕ) → ((u : Location) → place_of u ≡ p → P u) → ((u : Location) → (place_of u ≡ p → ⊥) → P u) →
    (u : Location) → P u
at_places P p here other u =
    elim (ℕ_discrete (place_of u) p) [
      | yes e ↦ here u e
      | no o ↦ other u o
    ]
