-- A recovery's step on any board writes nothing but the cell at its place.
use Prim.Native.Nat.{ℕ, ◌+◌, ◌<◌}
use mathlib.Core.Path.{◌≡◌, refl, sym, ap, subst}
use mathlib.Core.Logic.{◌⊎◌, inl, inr}
use mathlib.Core.Bool.{false, false≢true}
use borrow.Author.Tests.{leb-false}
use Rattle.line.specs.declared.Field.{Field}
use Rattle.line.specs.Line.{line_of}
use Rattle.line.specs.Cell.{cell_line, field_index, field_of, with_field}
use Rattle.line.proofs.Laws.{length-line_of, length-with_line, length-with_field, get_d-with_field-other, get_d-with_line-out}
use Rattle.board.specs.declared.State.{State}
use Rattle.board.specs.declared.Phase.{Phase}
use Rattle.board.specs.declared.Phase.TheVariants.{Recovering}
use Rattle.board.specs.declared.UndoStep.TheVariants.{Unmark, WriteLine}
use Rattle.board.specs.declared.Call.TheVariants.{Step}
use Rattle.board.specs.Board.{Board, shape_of, cells}
use Rattle.board.specs.State.{placed, is_recovering}
use Rattle.board.specs.Causes.{causes, place_past}
use Rattle.board.specs.Effects.{cached, stated, backed, past_stop}
use Rattle.board.specs.Steps.{OnlyCell, RecoveryWrites}
use Rattle.board.proofs.Laws.View.{cell_in}
use Rattle.board.proofs.Invariant.{Lengths}
use Rattle.board.proofs.Laws.Taken.{stands_at, passed, taken_next, limits-in, record-within}
use Rattle.board.proofs.Format.Board.{rows-sized}
use Rattle.board.proofs.Recovery.Board.{recovery-cases, past_cases}
use Rattle.board.specs.Next.{Taken}

-- ---- what a taken step finds

-- A taken step finds rows of the lengths that the record's L asks.
pub step-sizes : (b : Board) → Taken Step b → Lengths (shape_of b.state) b.memory b.cache
unfolding stands_at causes
step-sizes b t =
    rows-sized (shape_of b.state) b (limits-in (shape_of b.state) b.state.workers (record-within b.state (passed Step b t 3)).limits).shape (passed Step b t 4)

-- A taken step of a recovery is at a cell of the board.
pub step-cell : (b : Board) → b.state.phase ≡ Recovering → Taken Step b → b.state.place < cells (shape_of b.state)
unfolding stands_at causes
step-cell b e t =
    leb-false (cells (shape_of b.state)) b.state.place
    (subst (λ (p : Phase). place_past p b.state ≡ false) e (record-within b.state (passed Step b t 3)).place)

-- ---- what it writes

-- Past a cell a recovery that goes on is at the next one.
past-place : (s : State) → (past_stop s).phase ≡ Recovering → ((past_stop s).place ≡ s.place) ⊎ ((past_stop s).place ≡ s.place + 1)
past-place s =
    past_cases (λ (x : State). x.phase ≡ Recovering → (x.place ≡ s.place) ⊎ (x.place ≡ s.place + 1)) s
    (λ h p. inr refl)
    (λ h p. absurd (false≢true (ap is_recovering p)))

-- A store in the record or the mark of the cell at the place.
stores-cell : (b : Board) (f : Field) (v : ℕ) →
    ((i : ℕ) → (i ≡ field_index b.state.place Field.Record → ⊥) → (i ≡ field_index b.state.place Field.Mark → ⊥) → field_index b.state.place f ≡ i → ⊥) →
    (s : State) → s.place ≡ b.state.place → OnlyCell b.state.place b (cached (with_field b.cache b.state.place f v) s b)
stores-cell b f v other s e =
    record {
      cache = λ i r m. get_d-with_field-other b.cache b.state.place f v i (other i r m);
      cache_size = length-with_field b.cache b.state.place f v;
      memory = λ i o. refl;
      memory_size = refl;
      place = λ p. inl e;
    }

-- A step that stores nothing.
stores-none : (b : Board) → OnlyCell b.state.place b (stated (past_stop b.state) b)
stores-none b =
    record { cache = λ i r m. refl; cache_size = refl; memory = λ i o. refl; memory_size = refl; place = past-place b.state }

-- The line of the cell at the place written back.
stores-line : (b : Board) → Lengths (shape_of b.state) b.memory b.cache → b.state.place < cells (shape_of b.state) →
    OnlyCell b.state.place b (backed (cell_line b.state.place) (past_stop b.state) b)
stores-line b z h =
    let l = cell_line b.state.place in
    let inside = cell_in b.memory b.state.place z.memory h in
    let eight = length-line_of b.cache l (cell_in b.cache b.state.place z.cache h) in
    record {
      cache = λ i r m. refl;
      cache_size = refl;
      memory = λ i o. get_d-with_line-out b.memory l (line_of b.cache l) i inside eight o;
      memory_size = length-with_line b.memory l (line_of b.cache l) inside eight;
      place = past-place b.state;
    }

-- A recovery's step writes nothing but the cell at its place.
pub recovery-writes : RecoveryWrites
recovery-writes b e t =
    subst (OnlyCell b.state.place b) (sym (taken_next Step b t))
    (recovery-cases (OnlyCell b.state.place b) b e
    (λ u g. stores-cell b Field.Record (field_of b.cache b.state.place Field.Backup) (λ i r m q. r (sym q)) (placed b.state b.state.place Unmark) refl)
    (λ u g. stores-none b)
    (λ u. stores-cell b Field.Mark 0 (λ i r m q. m (sym q)) (placed b.state b.state.place WriteLine) refl)
    (λ u. stores-line b (step-sizes b t) (step-cell b e t)))
