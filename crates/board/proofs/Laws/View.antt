-- A location seen as one thing: its value, the old value of its log, and the log's stamp. Nothing is said here of a row's words but that a location owns some of them; every law of stores and write-backs follows from that.
use Prim.Native.Nat.{ℕ, ◌+◌, ◌/◌, ◌%◌, ◌≤◌, ◌<◌}
use mathlib.Core.Path.{◌≡◌, refl, sym, ap, subst, ◌∙◌}
use mathlib.Core.Logic.{◌⊎◌, inl, inr}
use mathlib.Core.List.{List}
use mathlib.Core.Bool.{Bool, true, false}
use native.Mathlib.Omega.{arith}
use native.Mathlib.Decide.{ℕ_discrete}
use lib.Dec.{eqb}
use lib.ListN.{length, get_or, set}
use lib.Seq.{get_or-set_other}
use borrow.Author.Tests.{eq-eqb, ne_eqb}
use Rattle.line.specs.declared.Field.{Field}
use Rattle.line.specs.declared.Field.TheVariants.{Record, Backup, Mark}
use Rattle.line.specs.Line.{line_start, line_of, with_line}
use Rattle.line.specs.Cell.{cell_line, field_index, field_of, with_field}
use Rattle.line.proofs.Laws.{offset-bound, length-line_of, length-with_line, field-same, field-other-field, get_d-line_of, get_d-with_line-in, get_d-with_line-out, field-with_line-zero}
use Rattle.board.specs.Board.{Shape, cells, row_words, epoch_of, zero_words}
use Rattle.board.specs.Location.{Location, cell, Has, same_location, line_for, value_in, old_in, logged, stops, changed_at}
use Rattle.predicate.proofs.Bools.{chosen, passed_over}

-- ---- the view

-- What is known of a location in a row.
pub record View : Type 0 where
  pub value : ℕ
  pub old : ℕ
  pub stamp : ℕ

-- The view of a location in a row.
unfoldable pub view : List ℕ → Location → View
view row (cell c) = record { value = field_of row c Record; old = field_of row c Backup; stamp = field_of row c Mark }

-- The log that the view shows is of epoch `e`.
abbrev pub logs : Location → ℕ → View → Bool
logs (cell c) e v = eqb v.stamp e

-- The stamp is one that can stand in epoch `e`: no mark is ahead of it.
abbrev pub Fit : Location → ℕ → View → Type 0
Fit (cell c) e v = v.stamp ≤ e

-- An erased location.
abbrev pub zeros : View
zeros = record { value = 0; old = 0; stamp = 0 }

-- In the next epoch the log is an earlier one's.
pub next-epoch : (u : Location) (e : ℕ) (v : View) → Fit u e v → (logs u (e + 1) v ≡ false) × Fit u (e + 1) v
next-epoch (cell c) e v h = (ne_eqb v.stamp (e + 1) (λ q. omega arith), omega arith)

-- An erased location's log is of no epoch, and fits each.
pub zeros-fit : (u : Location) (e : ℕ) → 0 < e → (logs u e zeros ≡ false) × Fit u e zeros
zeros-fit (cell c) e h = (ne_eqb 0 e (λ q. omega arith), omega arith)

-- The row has the length that L asks.
pub record Sized (σ : Shape) (row : List ℕ) : Type 0 where
  pub size : length row ≡ row_words σ.lines

-- What the definitions say of a location is what its view shows.
pub view-value : (row : List ℕ) (u : Location) → value_in row u ≡ (view row u).value
unfolding view
view-value row (cell c) = refl

pub view-old : (row : List ℕ) (u : Location) → old_in row u ≡ (view row u).old
unfolding view
view-old row (cell c) = refl

pub view-logged : (row : List ℕ) (u : Location) → logged row u ≡ logs u (epoch_of row) (view row u)
unfolding view
view-logged row (cell c) = refl

pub view-stamp : (row : List ℕ) (c : ℕ) → field_of row c Mark ≡ (view row (cell c)).stamp
unfolding view
view-stamp row c = refl

-- Two views with equal words.
pub view-eq : {a b a' b' x y : ℕ} → a ≡ b → a' ≡ b' → x ≡ y → ◌≡◌ {A = View} (record { value = a; old = a'; stamp = x }) (record { value = b; old = b'; stamp = y })
view-eq p q r = λ i. record { value = p i; old = q i; stamp = r i }

-- ---- a recovery's places

-- The place at which a recovery undoes the location.
abbrev pub place_of : Location → ℕ
place_of (cell c) = c

-- At a cell's place there is the cell alone.
pub at-cell : {c : ℕ} (P : Location → Type 0) (u : Location) → place_of u ≡ c → P (cell c) → P u
at-cell P (cell d) e p = subst (λ (n : ℕ). P (cell n)) (sym e) p

-- The location has its place among the stops.
pub place-among : (σ : Shape) (u : Location) → Has σ u → place_of u < stops σ
place-among σ (cell c) h = h

-- ---- the words of a location

-- The location owns word `i` of a row.
abbrev pub Owns : Location → ℕ → Type 0
Owns (cell c) i = (field_index c Record ≤ i) × (i < field_index c Record + 3)

-- They stand in its line.
pub owns-line : (u : Location) (i : ℕ) → Owns u i → i / 8 ≡ line_for u
unfolding field_index
owns-line (cell c) i h = omega arith

-- Locations that own one word have one place.
pub owns-place : (σ : Shape) (u t : Location) (i : ℕ) → Has σ u → Has σ t → Owns u i → Owns t i → place_of u ≡ place_of t
unfolding field_index
owns-place σ (cell c) (cell d) i a b g h = omega arith

-- None is in line 0.
pub line-positive : (σ : Shape) (u : Location) → Has σ u → 0 < line_for u
line-positive σ (cell c) h = omega arith

-- The line of a location that the board has is one of its lines.
pub line-high : {σ : Shape} (u : Location) → Has σ u → line_for u ≤ σ.lines
line-high (cell c) h = omega arith

-- A field's word is the cell's own.
pub owns-field : (c : ℕ) (f : Field) → Owns (cell c) (field_index c f)
unfolding field_index
owns-field c f = (omega (arith, offset-bound f), omega (arith, offset-bound f))

-- A view depends on the location's own words alone.
pub view-same : (row other : List ℕ) (u : Location) → ((i : ℕ) → Owns u i → get_or row i 0 ≡ get_or other i 0) → view row u ≡ view other u
unfolding view field_of
view-same row other (cell c) h = view-eq (h (field_index c Record) (owns-field c Record)) (h (field_index c Backup) (owns-field c Backup)) (h (field_index c Mark) (owns-field c Mark))

-- A cell is told by its number.
pub cell-one : {c d : ℕ} → cell c ≡ cell d → c ≡ d
cell-one e = ap number e
  where
    number : Location → ℕ
    number (cell n) = n

-- ---- a function of locations changed at one

same-yes : (u : Location) → same_location u u ≡ true
same-yes (cell c) = eq-eqb c c refl

same-no : (t u : Location) → (u ≡ t → ⊥) → same_location t u ≡ false
same-no (cell d) (cell c) o = ne_eqb d c (λ e. o (ap cell (sym e)))

-- At its place it has the new value.
pub put-at {ℓ} : {A : Type ℓ} (f : Location → A) (u : Location) (a : A) → changed_at f u a u ≡ a
unfolding changed_at
put-at f u a = chosen (same_location u u) a (f u) (same-yes u)

-- Elsewhere it has the old one.
pub put_other {ℓ} : {A : Type ℓ} (f : Location → A) (u : Location) (a : A) (t : Location) → (u ≡ t → ⊥) → changed_at f u a t ≡ f t
unfolding changed_at
put_other f u a t o = passed_over (same_location t u) a (f t) (same-no t u o)

-- ---- lines

-- A line up to L is in the row.
pub line-in : {σ : Shape} (row : List ℕ) (i : ℕ) → Sized σ row → i ≤ σ.lines → line_start i + 8 ≤ length row
line-in row i z h = omega arith

-- ---- a store

-- A store in a word of one location leaves the view of every location at another place.
pub view-set-other : (σ : Shape) (row : List ℕ) (u : Location) (i v : ℕ) → Has σ u → Owns u i → (t : Location) → Has σ t →
    (place_of t ≡ place_of u → ⊥) → view (set row i v) t ≡ view row t
view-set-other σ row u i v a own t b o =
    view-same (set row i v) row t (λ j h. get_or-set_other row i j v 0 (λ e. o (owns-place σ t u j b a h (subst (Owns u) (sym e) own))))

-- A header word's store leaves every view.
pub view-header : (σ : Shape) (row : List ℕ) (k v : ℕ) (u : Location) → Has σ u → k < 8 → view (set row k v) u ≡ view row u
view-header σ row k v u a b =
    view-same (set row k v) row u (λ j h. get_or-set_other row k j v 0 (λ e. omega (arith, owns-line u j h, line-positive σ u a)))

-- ---- a line stored

-- A stored line keeps the row's length.
pub sized-line : {σ : Shape} (row : List ℕ) (i : ℕ) (words : List ℕ) → Sized σ row → i ≤ σ.lines → length words ≡ 8 → Sized σ (with_line row i words)
sized-line row i words z h n = record { size = length-with_line row i words (line-in row i z h) n ∙ z.size }

-- A stored line leaves the views of another line's locations.
pub view-line-out : {σ : Shape} (row : List ℕ) (i : ℕ) (words : List ℕ) (u : Location) → Sized σ row → i ≤ σ.lines → length words ≡ 8 →
    (line_for u ≡ i → ⊥) → view (with_line row i words) u ≡ view row u
view-line-out row i words u z h n o =
    view-same (with_line row i words) row u (λ j b. get_d-with_line-out row i words j (line-in row i z h) n (λ e. o (sym (owns-line u j b) ∙ e)))

-- ---- a write-back

module _ {σ : Shape} (memory cache : List ℕ) (zm : Sized σ memory) (zc : Sized σ cache) where
  -- A written line has the cache's words.
  pub word-backed : (i j : ℕ) → i ≤ σ.lines → j / 8 ≡ i → get_or (with_line memory i (line_of cache i)) j 0 ≡ get_or cache j 0
  word-backed i j h e =
      let at : line_start i + (j % 8) ≡ j = omega arith in
      subst (λ (n : ℕ). get_or (with_line memory i (line_of cache i)) n 0 ≡ get_or cache n 0) at
      (get_d-with_line-in memory i (line_of cache i) (j % 8) (line-in memory i zm h) (length-line_of cache i (line-in cache i zc h)) (omega arith)
      ∙ get_d-line_of cache i (j % 8) (omega arith))

  -- The locations of the line written back are as in the cache.
  pub view-backed : (i : ℕ) (u : Location) → i ≤ σ.lines → line_for u ≡ i → view (with_line memory i (line_of cache i)) u ≡ view cache u
  view-backed i u h e = view-same (with_line memory i (line_of cache i)) cache u (λ j b. word-backed i j h (owns-line u j b ∙ e))

  -- A write-back leaves the length.
  pub sized-back : (i : ℕ) → i ≤ σ.lines → Sized σ (with_line memory i (line_of cache i))
  sized-back i h = sized-line memory i (line_of cache i) zm h (length-line_of cache i (line-in cache i zc h))

  -- After a write-back each location is as in the cache or as it was in memory.
  pub view-back : (i : ℕ) → i ≤ σ.lines → (u : Location) →
      (view (with_line memory i (line_of cache i)) u ≡ view cache u) ⊎ (view (with_line memory i (line_of cache i)) u ≡ view memory u)
  view-back i h u =
      elim (ℕ_discrete (line_for u) i) [
        | yes e ↦ inl (view-backed i u h e)
        | no o ↦ inr (view-line-out memory i (line_of cache i) u zm h (length-line_of cache i (line-in cache i zc h)) o)
      ]

-- ---- cells alone

-- The view with one of a cell's words put anew.
abbrev pub put : Field → ℕ → View → View
put Record x v = record { value = x; old = v.old; stamp = v.stamp }
put Backup x v = record { value = v.value; old = x; stamp = v.stamp }
put Mark x v = record { value = v.value; old = v.old; stamp = x }

-- A cell's line is in the row.
pub cell_in : {σ : Shape} (row : List ℕ) (c : ℕ) → Sized σ row → c < cells σ → line_start (cell_line c) + 8 ≤ length row
cell_in row c z h = line-in row (cell_line c) z (line-high (cell c) h)

module _ {σ : Shape} (row : List ℕ) (c v : ℕ) (z : Sized σ row) (h : c < cells σ) where
  -- A store changes one word of the cell's view.
  pub view-store : (f : Field) → view (with_field row c f v) (cell c) ≡ put f v (view row (cell c))
  unfolding view
  view-store Record =
      view-eq (field-same row c Record v (cell_in row c z h)) (field-other-field row c Record v Backup (λ e. omega arith)) (field-other-field row c Record v Mark (λ e. omega arith))
  view-store Backup =
      view-eq (field-other-field row c Backup v Record (λ e. omega arith)) (field-same row c Backup v (cell_in row c z h)) (field-other-field row c Backup v Mark (λ e. omega arith))
  view-store Mark =
      view-eq (field-other-field row c Mark v Record (λ e. omega arith)) (field-other-field row c Mark v Backup (λ e. omega arith)) (field-same row c Mark v (cell_in row c z h))

-- A store in a cell leaves the view of every location at another place.
pub view-other : (σ : Shape) (row : List ℕ) (c : ℕ) (f : Field) (v : ℕ) → Has σ (cell c) → (t : Location) → Has σ t → (place_of t ≡ c → ⊥) →
    view (with_field row c f v) t ≡ view row t
unfolding with_field
view-other σ row c f v a t b o = view-set-other σ row (cell c) (field_index c f) v a (owns-field c f) t b o

-- An erased line's locations are zeros.
pub view-erased : {σ : Shape} (row : List ℕ) (u : Location) → Sized σ row → Has σ u → view (with_line row (line_for u) zero_words) u ≡ zeros
unfolding view
view-erased row (cell c) z h =
    view-eq (field-with_line-zero row c Record (cell_in row c z h)) (field-with_line-zero row c Backup (cell_in row c z h)) (field-with_line-zero row c Mark (cell_in row c z h))
