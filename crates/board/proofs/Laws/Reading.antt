-- A running board takes every read, and gives the machine's current value.
use Prim.Native.Nat.{ℕ, ◌+◌, ◌≤◌, ◌<◌}
use mathlib.Core.Path.{◌≡◌, refl, sym, ap, subst, ◌∙◌}
use mathlib.Core.List.{List}
use mathlib.Core.Bool.{true, false}
use native.Mathlib.Omega.{arith}
use lib.Dec.{leb, ltb}
use lib.ListN.{length}
use borrow.Author.Tests.{eq-eqb, le-ltb, lt-leb}
use Rattle.line.specs.Cell.{field_of}
use Rattle.line.specs.declared.Field.{Field}
use Rattle.board.specs.declared.Condition.{Condition}
use Rattle.board.specs.declared.Condition.TheVariants.{Free, Waiting, Updating, Away}
use Rattle.board.specs.declared.Phase.{Phase}
use Rattle.board.specs.declared.Phase.TheVariants.{Running}
use Rattle.board.specs.declared.Call.TheVariants.{Read}
use Rattle.board.specs.Board.{Board, Shape, shape_of, cells}
use Rattle.board.specs.State.{condition_of, updates, is_running, dirty_count}
use Rattle.board.specs.Causes.{causes, cause, not_running, bad_record, bad_rows, place_past}
use Rattle.board.specs.Next.{taken, value_read, Taken}
use Rattle.board.specs.Machine.{Machine, Unfinished}
use Rattle.board.specs.Sequence.{Run}
use Rattle.predicate.proofs.Bools.{chosen, and-if, not_on_lem}
use Rattle.board.specs.Location.{cell}
use Rattle.board.proofs.Laws.View.{view, view-value}
use Rattle.board.proofs.Invariant.{Inv, InPhase, RunningInv, Stage, early, gap, late, WorkerInv}
use Rattle.board.specs.Checkpoint.{acts}
use Rattle.board.proofs.Checkpoint.Acts.{acts-length}
use Rattle.board.proofs.Laws.Dirty.{dirty-fine}
use Rattle.board.proofs.Laws.Taken.{Clear, take, rows-fine, record-fine}

-- Up to the release something is left of a checkpoint.
pub some_left : {σ : Shape} {b : Board} {m : Machine} → Stage σ b m → 0 < length (acts b)
some_left (early e) = omega (arith, e.left)
some_left (gap g) = omega (arith, g.left)
some_left (late k) = k.low

-- So its place is at most the release's.
pub place_in : {σ : Shape} (b : Board) {m : Machine} → Stage σ b m → b.state.requested ≡ true → b.state.place ≤ dirty_count b.state + 2
place_in b stage on = omega (arith, acts-length b, some_left stage, chosen b.state.requested b.state.place 0 on)

-- An unfinished update has a cell of the board.
cell-fine : (σ : Shape) (cache : List ℕ) (k : Condition) (u : Unfinished) → WorkerInv σ cache k u → updates (leb (cells σ)) k ≡ false
cell-fine σ cache Free u i = refl
cell-fine σ cache Waiting u i = refl
cell-fine σ cache Away u i = refl
cell-fine σ cache (Updating next c v) u i = lt-leb (cells σ) c i.1

-- The state record of a running board passes its test.
pub running-record : {σ : Shape} (b : Board) (m : Machine) → b.state.phase ≡ Running → RunningInv σ b m → bad_record b.state ≡ false
running-record {σ} b m p i =
    let s = b.state in
    let past = ltb (dirty_count s + 2) s.place in
    record-fine σ s i.own
    (dirty-fine s.dirty m.marked i.checkpoint.dirty)
    (subst (λ (ph : Phase). place_past ph s ≡ false) (sym p)
    (and-if s.requested past (λ q. le-ltb (dirty_count s + 2) s.place (place_in b i.checkpoint.stage q))))
    (λ w h. cell-fine σ b.cache (condition_of s w) (m.unfinished w) (i.workers.each w h))

-- What holds in the phase that is known.
pub in-phase : (r : Run) → Inv r → r.crashed ≡ false → (p : Phase) → r.board.state.phase ≡ p → InPhase p r
in-phase r i d p e = subst (λ (q : Phase). InPhase q r) e (i.phase d)

-- The value of a read that is taken.
pub value_taken : (c : ℕ) (b : Board) → Taken (Read c) b → value_read c b ≡ (view b.cache (cell c)).value
unfolding value_read
value_taken c b t =
    chosen (taken (Read c) b) (field_of b.cache c Field.Record) 0 (eq-eqb (cause (Read c) b) 0 t) ∙ view-value b.cache (cell c)

-- A running board passes the tests of phase, record and rows.
pub record Passes (b : Board) : Type 0 where
  pub phase : not_running b ≡ false
  pub state : bad_record b.state ≡ false
  pub rows : bad_rows b.state.lines b ≡ false

pub running-passes : (r : Run) → Inv r → r.crashed ≡ false → r.board.state.phase ≡ Running → Passes r.board
running-passes r i d p =
    let v : RunningInv r.machine.shape r.board r.machine = (in-phase r i d Running p).0 in
    record {
      phase = not_on_lem (is_running r.board.state.phase) (ap is_running p);
      state = running-record r.board r.machine p v;
      rows = subst (λ (τ : Shape). bad_rows τ.lines r.board ≡ false) (sym v.own.shape) (rows-fine r.machine.shape r.board i.sizes);
    }

-- A running board takes the read of every cell.
pub read_taken_lem : (r : Run) → Inv r → r.crashed ≡ false → r.board.state.phase ≡ Running → (c : ℕ) → c < cells r.machine.shape → Taken (Read c) r.board
unfolding Clear causes
read_taken_lem r i d p c h =
    let y = running-passes r i d p in
    let same : shape_of r.board.state ≡ r.machine.shape = (in-phase r i d Running p).0.own.shape in
    take (Read c) r.board (y.phase, (y.state, (y.rows, (lt-leb (cells (shape_of r.board.state)) c (subst (λ (τ : Shape). c < cells τ) (sym same) h), tt))))

-- A running board reads the machine's current values.
pub read-current : (r : Run) → Inv r → r.crashed ≡ false → r.board.state.phase ≡ Running → (c : ℕ) → c < cells r.machine.shape →
    value_read c r.board ≡ r.machine.current (cell c)
read-current r i d p c h = value_taken c r.board (read_taken_lem r i d p c h) ∙ (in-phase r i d Running p).0.rows.current (cell c) h
