-- Each store of an unfinished update keeps the invariant.
use Prim.Native.Nat.{ℕ, zero, suc, ◌-◌, ◌<◌}
use mathlib.Core.Path.{◌≡◌, refl, sym, ap, subst, subst₂, ◌∙◌}
use mathlib.Core.List.{List}
use mathlib.Core.Bool.{Bool, true, false, not, ◌&&◌, true≢false}
use native.Mathlib.Omega.{arith}
use lib.Dec.{ltb}
use Rattle.bitset.specs.Words.{inserted}
use borrow.Author.Tests.{eq-eqb}
use Rattle.line.specs.declared.Field.{Field}
use Rattle.line.specs.Cell.{cell_line, field_of, with_field}
use Rattle.board.specs.declared.State.{State}
use Rattle.board.specs.declared.Condition.{Condition}
use Rattle.board.specs.declared.Condition.TheVariants.{Free, Waiting, Updating, Away}
use Rattle.board.specs.declared.Store.{Store}
use Rattle.board.specs.declared.Store.TheVariants.{Backup, Mark, Record}
use Rattle.board.specs.declared.Call.TheVariants.{Advance}
use Rattle.board.specs.Board.{Board, epoch_of}
use Rattle.board.specs.Location.{Location, cell, Has, changed_at}
use Rattle.board.specs.State.{condition_of, is_updating}
use Rattle.board.specs.Causes.{causes}
use Rattle.board.specs.Effects.{recorded, after_last, advance, advance_of, effect}
use Rattle.board.specs.Machine.{Unfinished, none, update, Machine, fewer, advanced, feed}
use Rattle.board.specs.Sequence.{Run}
use Rattle.predicate.proofs.Bools.{on, clash}
use Rattle.board.proofs.Laws.View.{View, view, logs, put, put-at, put_other, place_of, at-cell, view-value, view-store}
use Rattle.board.proofs.Laws.Only.{only_store}
use Rattle.board.proofs.Invariant.{BeforeStore, stores_left, WorkerInv, Touches, Dirty, Inv}
use Rattle.board.proofs.Laws.Taken.{stands_at, passed, shape-in, after_taken}
use Rattle.board.proofs.Laws.Dirty.{dirty-mark}
use Rattle.board.proofs.Laws.Rows.{epoch-store}
use Rattle.board.proofs.Checkpoint.Run.{Preserved, quietly}
use Rattle.board.proofs.Keeps.OnePlace.{LocationInv, location-inv, Change, changed_run, Working, working, one_place}
use Rattle.board.specs.Next.{Taken}

-- ---- a cell's view

module _ {c e x y : ℕ} {t : Bool} {memory v : View} (inv : LocationInv (cell c) e x y t memory v) where
  -- A backup stored in a cell that is not logged.
  cell-backed : (z : ℕ) → logs (cell c) e v ≡ false → LocationInv (cell c) e x y t memory (put Field.Backup z v)
  cell-backed z o =
      record { undo = record { logged = λ p. absurd (clash p o); plain = inv.undo.plain; fit = inv.undo.fit }; current = inv.current; marks = inv.marks; clean = inv.clean }

  -- The mark stored in a cell whose backup is its record.
  cell-marked : {t' : Bool} (z : ℕ) → z ≡ e → logs (cell c) e v ≡ false → v.old ≡ v.value → t' ≡ true →
      LocationInv (cell c) e x y t' memory (put Field.Mark z v)
  cell-marked z p o q t =
      record { undo = record { logged = λ n. q ∙ inv.undo.plain o; plain = λ n. absurd (clash (eq-eqb z e p) n); fit = omega arith }; current = inv.current; marks = t ∙ sym (eq-eqb z e p); clean = λ n. absurd (clash (eq-eqb z e p) n) }

  -- The record stored in a cell that is logged.
  cell-recorded : {y' : ℕ} (z : ℕ) → logs (cell c) e v ≡ true → y' ≡ z → LocationInv (cell c) e x y' t memory (put Field.Record z v)
  cell-recorded z p q =
      record { undo = record { logged = inv.undo.logged; plain = λ n. absurd (clash p n); fit = inv.undo.fit }; current = sym q; marks = inv.marks; clean = λ n. absurd (clash p n) }

-- ---- a store

-- Worker `w` is about to do the store `next` of its update.
record Turn (r : Run) (w c v : ℕ) (next : Store) : Type 0 where
  now : Working r w
  here : condition_of r.board.state w ≡ Updating next c v
  has : Has r.machine.shape (cell c)
  before : BeforeStore next c (epoch_of r.board.memory) (view r.board.cache (cell c))

-- What a store leaves.
abbrev storing : ℕ → ℕ → List ℕ → Condition → List ℕ → (Location → ℕ) → (Location → Bool) → Unfinished → Change
storing w c cache condition dirty current marked unfinished =
    record { worker = w; place = place_of (cell c); condition = condition; dirty = dirty; cache = cache; current = current; marked = marked; unfinished = unfinished }

-- A store of `x` in field `f` of the worker's cell.
module _ (r : Run) (w c v : ℕ) (next : Store) (inv : Inv r) (turn : Turn r w c v next) (f : Field) (x : ℕ) where
  -- The view of the cell after the store.
  view-after : view (with_field r.board.cache c f x) (cell c) ≡ put f x (view r.board.cache (cell c))
  view-after = view-store r.board.cache c x inv.sizes.cache turn.has f

  -- The worker is about to do the store after this one.
  worker-after : (then : Store) → BeforeStore then c (epoch_of r.board.memory) (put f x (view r.board.cache (cell c))) →
      WorkerInv r.machine.shape (with_field r.board.cache c f x) (Updating then c v) (update (cell c) v (stores_left then))
  worker-after then before =
      let epoch : epoch_of r.board.memory ≡ epoch_of (with_field r.board.cache c f x) = sym (epoch-store r.board.cache c f x ∙ turn.now.stage.epochs) in
      (refl, turn.has, subst₂ (BeforeStore then c) epoch (sym view-after) before)

  -- No other worker has an update of the cell.
  alone : (u : ℕ) → u < r.board.state.workers → (w ≡ u → ⊥) → Touches (condition_of r.board.state u) c → ⊥
  alone u h o t = o (turn.now.run.workers.apart w u c turn.now.under h (subst (λ (k : Condition). Touches k c) (sym turn.here) refl) t)

  -- The store keeps the invariant where what it leaves of cell, dirty lines and worker fits.
  store :
      (condition : Condition) (dirty : List ℕ) (current : Location → ℕ) (marked : Location → Bool) (unfinished : Unfinished) (crashed : Bool) →
      ((u : Location) → (cell c ≡ u → ⊥) → current u ≡ r.machine.current u) →
      ((u : Location) → (cell c ≡ u → ⊥) → marked u ≡ r.machine.marked u) →
      LocationInv (cell c) (epoch_of r.board.memory) (r.machine.checkpointed (cell c)) (current (cell c)) (marked (cell c)) (view r.board.memory (cell c)) (put f x (view r.board.cache (cell c))) →
      Dirty r.machine.shape dirty marked →
      WorkerInv r.machine.shape (with_field r.board.cache c f x) condition unfinished →
      ((d : ℕ) → Touches condition d → c ≡ d) →
      Inv (changed_run (storing w c (with_field r.board.cache c f x) condition dirty current marked unfinished) crashed r)
  store condition dirty current marked unfinished crashed currents marks here lines worker own =
      one_place r (storing w c (with_field r.board.cache c f x) condition dirty current marked unfinished) crashed inv turn.now
      (record {
        only = only_store r.machine.shape r.board.cache c f x turn.has;
        currents = λ u o. currents u (λ q. o (sym (ap place_of q)));
        marks = λ u o. marks u (λ q. o (sym (ap place_of q)));
        here = λ u h q. at-cell (λ (t : Location). LocationInv t (epoch_of r.board.memory) (r.machine.checkpointed t) (current t) (marked t) (view r.board.memory t) (view (with_field r.board.cache c f x) t)) u q
            (subst (LocationInv (cell c) (epoch_of r.board.memory) (r.machine.checkpointed (cell c)) (current (cell c)) (marked (cell c)) (view r.board.memory (cell c))) (sym view-after) here);
        dirty = lines;
        worker = worker;
        own = own;
        alone = alone;
      })

-- The run after the store.
abbrev stored : Run → ℕ → ℕ → ℕ → Store → Bool → Run
stored r w c v next crashed =
    record { board = advance next w c v r.board.state r.board; machine = fewer (stores_left next - 1) w (cell c) v r.machine; crashed = crashed; erased = r.erased }

-- Each of the three stores keeps the invariant.
keeps-store : (r : Run) (w c v : ℕ) (next : Store) (crashed : Bool) → Inv r → Turn r w c v next → Inv (stored r w c v next crashed)
unfolding advance fewer
keeps-store r w c v Backup crashed inv turn =
    let b = r.board in
    let m = r.machine in
    let old = field_of b.cache c Field.Record in
    store r w c v Backup inv turn Field.Backup old (Updating Mark c v) b.state.dirty m.current m.marked (update (cell c) v 2) crashed (λ d o. refl) (λ d o. refl)
    (cell-backed (location-inv turn.now.run turn.now.stage (cell c) turn.has) old turn.before)
    turn.now.run.checkpoint.dirty
    (worker-after r w c v Backup inv turn Field.Backup old Mark (turn.before, view-value b.cache (cell c))) (λ d t. t)
keeps-store r w c v Mark crashed inv turn =
    let b = r.board in
    let m = r.machine in
    let ear = turn.now.stage in
    let e = epoch_of b.cache in
    store r w c v Mark inv turn Field.Mark e (Updating Record c v) (inserted b.state.dirty (cell_line c)) m.current (changed_at m.marked (cell c) true) (update (cell c) v 1) crashed (λ d o. refl)
    (put_other m.marked (cell c) true)
    (cell-marked (location-inv turn.now.run ear (cell c) turn.has) e ear.epochs turn.before.0 turn.before.1 (put-at m.marked (cell c) true))
    (dirty-mark b.state.dirty m.marked turn.now.run.checkpoint.dirty c turn.has (shape-in m.shape inv.sizes.limits).1)
    (worker-after r w c v Mark inv turn Field.Mark e Record (eq-eqb e (epoch_of b.memory) ear.epochs)) (λ d t. t)
keeps-store r w c v Record crashed inv turn =
    let b = r.board in
    let m = r.machine in
    let waits = ltb c b.state.workers && b.state.requested in
    store r w c v Record inv turn Field.Record v (after_last b.state c) b.state.dirty (changed_at m.current (cell c) v) m.marked none crashed (put_other m.current (cell c) v) (λ d o. refl)
    (cell-recorded (location-inv turn.now.run turn.now.stage (cell c) turn.has) v turn.before (put-at m.current (cell c) v))
    turn.now.run.checkpoint.dirty
    (on (λ (k : Condition). WorkerInv m.shape (recorded b.cache c v) k none) waits Waiting Free (λ t. refl) (λ t. refl))
    (on (λ (k : Condition). (d : ℕ) → Touches k d → c ≡ d) waits Waiting Free (λ t d n. absurd n) (λ t d n. absurd n))

-- ---- the call

-- A taken advance.
keeps-advance : (r : Run) (w : ℕ) → Inv r → r.crashed ≡ false → Taken (Advance w) r.board → Inv (after_taken (Advance w) r)
unfolding stands_at causes effect feed advance_of advanced
keeps-advance r w inv crashed t = go (condition_of s w) refl (pass 8) (now.run.workers.each w now.under)
  where
    s : State
    s = r.board.state

    pass : (n : ℕ) → stands_at n (causes (Advance w) r.board) ≡ false
    pass = passed (Advance w) r.board t

    now : Working r w
    now = working r w is_updating refl refl inv crashed (pass 2) (pass 6) (pass 8)

    go : (k : Condition) → condition_of s w ≡ k → not (is_updating k) ≡ false →
        WorkerInv r.machine.shape r.board.cache k (r.machine.unfinished w) → Inv (after_taken (Advance w) r)
    go Free e busy worker = absurd (true≢false busy)
    go Waiting e busy worker = absurd (true≢false busy)
    go Away e busy worker = absurd (true≢false busy)
    go (Updating next c v) e busy worker =
        subst₂ (λ (k : Condition) (u : Unfinished). Inv (record { board = advance_of k w s r.board; machine = advanced u w r.machine; crashed = r.crashed && true; erased = r.erased }))
        (sym e) (sym worker.0)
        (keeps-store r w c v next (r.crashed && true) inv
        (record { now = now; here = e; has = worker.1; before = subst (λ (n : ℕ). BeforeStore next c n (view r.board.cache (cell c))) now.stage.epochs worker.2 }))

-- ---- the last checkpoint

-- An advance leaves memory.
advance-memory : (k : Condition) (w : ℕ) (s : State) (b : Board) → (advance_of k w s b).memory ≡ b.memory
unfolding advance_of advance
advance-memory Free w s b = refl
advance-memory Waiting w s b = refl
advance-memory Away w s b = refl
advance-memory (Updating Backup c v) w s b = refl
advance-memory (Updating Mark c v) w s b = refl
advance-memory (Updating Record c v) w s b = refl

-- An advance leaves the machine's shape and checkpointed values.
record SameCheckpoint (m m' : Machine) : Type 0 where
  shape : m'.shape ≡ m.shape
  values : (c : Location) → m'.checkpointed c ≡ m.checkpointed c

fewer-same : (left w : ℕ) (d : Location) (v : ℕ) (m : Machine) → SameCheckpoint m (fewer left w d v m)
unfolding fewer
fewer-same zero w d v m = record { shape = refl; values = λ c. refl }
fewer-same (suc zero) w d v m = record { shape = refl; values = λ c. refl }
fewer-same (suc (suc n)) w d v m = record { shape = refl; values = λ c. refl }

advanced-same : (u : Unfinished) (w : ℕ) (m : Machine) → SameCheckpoint m (advanced u w m)
unfolding advanced
advanced-same none w m = record { shape = refl; values = λ c. refl }
advanced-same (update d v left) w m = fewer-same (left - 1) w d v m

-- A taken advance changes nothing of the last checkpoint.
pub carried-advance : (r : Run) (w : ℕ) → Inv r → r.crashed ≡ false → Taken (Advance w) r.board → Preserved false r (after_taken (Advance w) r)
unfolding effect feed
carried-advance r w inv crashed t =
    let same = advanced-same (r.machine.unfinished w) w r.machine in
    quietly (keeps-advance r w inv crashed t) (advance-memory (condition_of r.board.state w) w r.board.state r.board) same.shape same.values
