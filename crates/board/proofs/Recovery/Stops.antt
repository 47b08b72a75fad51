-- What a recovery does at one stop, to the locations there: the laws that each kind of stop has to keep. There is one kind, a cell.
use Prim.Native.Nat.{ℕ, ◌≤◌, ◌<◌}
use mathlib.Core.Path.{◌≡◌, refl, sym, ap, subst, ◌∙◌}
use mathlib.Core.List.{List}
use mathlib.Core.Bool.{true, false, true≢false}
use native.Mathlib.Omega.{arith}
use borrow.Author.Tests.{ne_eqb}
use Rattle.line.specs.declared.Field.{Field}
use Rattle.line.specs.Cell.{field_of}
use Rattle.board.specs.Board.{Shape, epoch_of}
use Rattle.board.specs.Location.{Location, cell, Has, line_for, stops, stop_at, stop_line, undoes, restored, unmarked}
use Rattle.board.proofs.Laws.View.{View, view, logs, Sized, place_of, view-old, view-logged, view-store}
use Rattle.board.proofs.Laws.Only.{OnlyAt, only_store}
use Rattle.board.proofs.Invariant.{Undo}

-- ---- which words

-- The stores at a stop change the locations there alone.
pub only-restored : (σ : Shape) (place : ℕ) (row : List ℕ) → place < stops σ → OnlyAt σ place row (restored row (stop_at σ place))
only-restored σ place row h = only_store σ row place Field.Record (field_of row place Field.Backup) h

pub only-unmarked : (σ : Shape) (place : ℕ) (row : List ℕ) → place < stops σ → OnlyAt σ place row (unmarked row (stop_at σ place))
only-unmarked σ place row h = only_store σ row place Field.Mark 0 h

-- The line written back is one of the board's, and the locations there stand in it.
pub stop-line : (σ : Shape) (place : ℕ) → place < stops σ → (0 < stop_line (stop_at σ place)) × (stop_line (stop_at σ place) ≤ σ.lines)
stop-line σ place h = omega arith

pub stop-holds : (σ : Shape) (u : Location) → Has σ u → line_for u ≡ stop_line (stop_at σ (place_of u))
stop-holds σ (cell c) h = refl

-- Whether another stop has something to undo stays.
pub undoes-other : (σ : Shape) {p : ℕ} (row row' : List ℕ) → OnlyAt σ p row row' → (n : ℕ) → n < stops σ → (n ≡ p → ⊥) →
    undoes row' (stop_at σ n) ≡ undoes row (stop_at σ n)
undoes-other σ row row' only n h o =
    view-logged row' (cell n) ∙ (λ i. logs (cell n) (only.header 0 (omega arith) i) (only.others (cell n) h o i)) ∙ sym (view-logged row (cell n))

-- ---- what becomes of a location at the stop

-- The stop has something to undo where the location is logged.
pub undoes-logs : (σ : Shape) (row : List ℕ) {e : ℕ} (u : Location) → epoch_of row ≡ e → undoes row (stop_at σ (place_of u)) ≡ false →
    logs u e (view row u) ≡ false
undoes-logs σ row (cell c) q t = ap (λ (n : ℕ). logs (cell c) n (view row (cell c))) (sym q) ∙ sym (view-logged row (cell c)) ∙ t

-- Restored, the location still undoes to its value, and has it.
pub restored-undo : (σ : Shape) (row : List ℕ) {e x : ℕ} (u : Location) → Sized σ row → Has σ u → epoch_of row ≡ e →
    undoes row (stop_at σ (place_of u)) ≡ true → Undo u e x (view row u) →
    Undo u e x (view (restored row (stop_at σ (place_of u))) u) × ((view (restored row (stop_at σ (place_of u))) u).value ≡ x)
restored-undo σ row {e} {x} (cell c) z h q t k =
    let v = field_of row c Field.Backup in
    let now = view-store row c v z h Field.Record in
    let on : logs (cell c) e (view row (cell c)) ≡ true = ap (λ (n : ℕ). logs (cell c) n (view row (cell c))) (sym q) ∙ sym (view-logged row (cell c)) ∙ t in (
      subst (Undo (cell c) e x) (sym now) (record { logged = k.logged; plain = λ o. absurd (true≢false (sym on ∙ o)); fit = k.fit }),
      ap (λ (w : View). w.value) now ∙ view-old row (cell c) ∙ k.logged on,
    )

-- With its log dropped, a location that has its value undoes to it, and is not logged.
pub unmarked-undo : (σ : Shape) (row : List ℕ) {e x : ℕ} (u : Location) → Sized σ row → Has σ u → 0 < e → (view row u).value ≡ x →
    Undo u e x (view (unmarked row (stop_at σ (place_of u))) u) × (logs u e (view (unmarked row (stop_at σ (place_of u))) u) ≡ false)
unmarked-undo σ row {e} {x} (cell c) z h p q =
    let now = view-store row c 0 z h Field.Mark in
    let off = ne_eqb 0 e (λ r. omega arith) in (
      subst (Undo (cell c) e x) (sym now) (record { logged = λ t. absurd (true≢false (sym t ∙ off)); plain = λ o. q; fit = omega arith }),
      ap (logs (cell c) e) now ∙ off,
    )
