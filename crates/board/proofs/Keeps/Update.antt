-- The starts of an update and of a restart point keep the invariant.
use Prim.Native.Nat.{ℕ, ◌≤◌, ◌<◌}
use mathlib.Core.Path.{◌≡◌, refl, sym, ap, subst, ◌∙◌}
use mathlib.Core.List.{List}
use mathlib.Core.Bool.{Bool, true, false, cond, not, ◌&&◌}
use native.Mathlib.Omega.{arith}
use lib.Dec.{leb, ltb, eqb}
use borrow.Author.Tests.{leb-false, eq-eqb, ne_eqb, lt-ltb}
use Rattle.board.specs.declared.State.{State}
use Rattle.board.specs.declared.Condition.{Condition}
use Rattle.board.specs.declared.Condition.TheVariants.{Free, Waiting, Updating, Away}
use Rattle.board.specs.declared.Store.TheVariants.{Backup, Record}
use Rattle.board.specs.declared.Call.TheVariants.{Update, RestartPoint}
use Rattle.board.specs.Board.{Board, Shape, shape_of, cells, epoch_of}
use Rattle.board.specs.State.{condition_of, is_free, updates, others_update}
use Rattle.board.specs.Causes.{causes}
use Rattle.board.specs.Location.{Location, cell, Has, logged}
use Rattle.board.specs.Effects.{first_store, effect}
use Rattle.board.specs.Machine.{update, Machine, feed}
use Rattle.board.specs.Sequence.{Run}
use Rattle.predicate.proofs.Bools.{clash, or_right, and-not, and_both, not-to}
use Rattle.predicate.proofs.Passing.{none-under}
use Rattle.board.proofs.Laws.View.{View, view, logs, view-logged, place_of}
use Rattle.board.proofs.Laws.Only.{only_none}
use Rattle.board.proofs.Invariant.{BeforeStore, stores_left, WorkerInv, Touches, Inv}
use Rattle.board.proofs.Laws.Taken.{stands_at, passed, after_taken, limits-in}
use Rattle.board.proofs.Keeps.OnePlace.{location-inv, Change, changed_run, Working, working, one_place}
use Rattle.board.specs.Next.{Taken}

-- ---- what the passed tests say

-- An update of the cell is seen by the test for it.
touch-seen : (k : Condition) (c : ℕ) → Touches k c → updates (eqb c) k ≡ true
touch-seen Free c t = absurd t
touch-seen Waiting c t = absurd t
touch-seen Away c t = absurd t
touch-seen (Updating next d v) c t = eq-eqb c d (sym t)

-- No other worker has an unfinished update of the cell.
alone : (s : State) (w c : ℕ) → s.workers ≤ 8 → others_update s w c ≡ false → (u : ℕ) → u < s.workers → (w ≡ u → ⊥) → Touches (condition_of s u) c → ⊥
alone s w c h e u b o t =
    clash (touch-seen (condition_of s u) c t)
    (and-not (ltb u s.workers && not (eqb u w)) (updates (eqb c) (condition_of s u))
    (none-under 8 (λ i. ltb i s.workers && not (eqb i w) && updates (eqb c) (condition_of s i)) e u (omega arith))
    (and_both (ltb u s.workers) (not (eqb u w)) (lt-ltb u s.workers b) (not-to (eqb u w) (ne_eqb u w (λ p. o (sym p))))))

-- ---- the start

-- An update's first store is decided by the log, and the machine counts the stores alike.
first_store_lem : (t : Bool) (e : ℕ) (v : View) (c x : ℕ) → t ≡ logs (cell c) e v →
    (update (cell c) x (cond t 1 3) ≡ update (cell c) x (stores_left (cond t Record Backup))) × BeforeStore (cond t Record Backup) c e v
first_store_lem true e v c x p = (refl, sym p)
first_store_lem false e v c x p = (refl, sym p)

-- The worker after the start.
started-worker : (σ : Shape) (c v : ℕ) (cache : List ℕ) (marked : Bool) → Has σ (cell c) → marked ≡ logged cache (cell c) →
    WorkerInv σ cache (Updating (first_store cache c) c v) (update (cell c) v (cond marked 1 3))
started-worker σ c v cache marked h e =
    let first = first_store_lem (logged cache (cell c)) (epoch_of cache) (view cache (cell c)) c v (view-logged cache (cell c)) in
    (ap (λ (t : Bool). update (cell c) v (cond t 1 3)) e ∙ first.0, h, first.1)

-- What the start of an update of cell `c` leaves.
abbrev starting : ℕ → ℕ → ℕ → Board → Machine → Change
starting w c v b m =
    record { worker = w; place = place_of (cell c); condition = Updating (first_store b.cache c) c v; dirty = b.state.dirty; cache = b.cache; current = m.current; marked = m.marked; unfinished = update (cell c) v (cond (m.marked (cell c)) 1 3) }

-- A cell is marked in the machine where it is logged in the cache.
pub marked-logged : (r : Run) {w : ℕ} → Working r w → (u : Location) → Has r.machine.shape u → r.machine.marked u ≡ logged r.board.cache u
marked-logged r now u h =
    now.stage.marks u h ∙ ap (λ (e : ℕ). logs u e (view r.board.cache u)) (sym now.stage.epochs) ∙ sym (view-logged r.board.cache u)

-- The start of an update of a cell that no other worker updates.
start : (r : Run) (w c v : ℕ) (crashed : Bool) → Inv r → Working r w → c < cells r.machine.shape → others_update r.board.state w c ≡ false →
    Inv (changed_run (starting w c v r.board r.machine) crashed r)
start r w c v crashed inv now h e =
    let b = r.board in
    let m = r.machine in
    one_place r (starting w c v b m) crashed inv now
    (record {
      only = only_none m.shape c b.cache;
      currents = λ d o. refl;
      marks = λ d o. refl;
      here = λ u a q. location-inv now.run now.stage u a;
      dirty = now.run.checkpoint.dirty;
      worker = started-worker m.shape c v b.cache (m.marked (cell c)) h (marked-logged r now (cell c) h);
      own = λ d t. t;
      alone = alone b.state w c (limits-in m.shape b.state.workers now.run.own.limits).eight e;
    })

-- The cell of a taken update is one of the board's.
pub update-cell : (r : Run) (w c v : ℕ) → Working r w → Taken (Update w c v) r.board → c < cells r.machine.shape
unfolding stands_at causes
update-cell r w c v now t =
    let s = r.board.state in
    let inside : c < cells (shape_of s) = leb-false (cells (shape_of s)) c (or_right (ltb c s.workers) (leb (cells (shape_of s)) c) (passed (Update w c v) r.board t 7)) in
    subst (λ (σ : Shape). c < cells σ) now.run.own.shape inside

-- A worker's restart cell is one of the board's.
pub restart-cell : (r : Run) (w : ℕ) → Working r w → w < cells r.machine.shape
restart-cell r w now = omega (arith, now.under, (limits-in r.machine.shape r.board.state.workers now.run.own.limits).fewer)

-- A taken start of an update.
pub keeps-update : (r : Run) (w c v : ℕ) → Inv r → r.crashed ≡ false → Taken (Update w c v) r.board → Inv (after_taken (Update w c v) r)
unfolding stands_at causes effect feed
keeps-update r w c v inv crashed t =
    let pass = passed (Update w c v) r.board t in
    let now = working r w is_free refl refl inv crashed (pass 2) (pass 6) (pass 8) in
    start r w c v _ inv now (update-cell r w c v now t) (pass 9)

-- A taken start of a restart point.
pub keeps-restart : (r : Run) (w v : ℕ) → Inv r → r.crashed ≡ false → Taken (RestartPoint w v) r.board → Inv (after_taken (RestartPoint w v) r)
unfolding stands_at causes effect feed
keeps-restart r w v inv crashed t =
    let pass = passed (RestartPoint w v) r.board t in
    let now = working r w is_free refl refl inv crashed (pass 2) (pass 6) (pass 8) in
    start r w w v _ inv now (restart-cell r w now) (pass 9)
