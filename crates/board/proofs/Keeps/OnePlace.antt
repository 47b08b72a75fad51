-- The start of an update and each of its stores: at most one place, one worker and one line's bit change, and the invariant stays.
use Prim.Native.Nat.{ℕ, ◌+◌, ◌≤◌, ◌<◌}
use mathlib.Core.Path.{◌≡◌, refl, sym, subst, subst₂, subst₃, ◌∙◌}
use mathlib.Core.List.{List, Memᴰ}
use mathlib.Core.Bool.{Bool, true, false, not}
use native.Mathlib.Omega.{arith}
use native.Mathlib.Decide.{ℕ_discrete}
use lib.ListN.{length, length-set}
use borrow.Author.Tests.{leb-false}
use Rattle.board.specs.declared.State.{State}
use Rattle.board.specs.declared.Condition.{Condition}
use Rattle.board.specs.declared.Condition.TheVariants.{Free, Waiting, Updating, Away}
use Rattle.board.specs.declared.Phase.{Phase}
use Rattle.board.specs.declared.Phase.TheVariants.{Off, Formatting, Recovering, Running}
use Rattle.board.specs.Board.{Board, Shape, epoch_of}
use Rattle.board.specs.Location.{Location, cell, Has, line_for}
use Rattle.board.specs.State.{condition_of, conditioned, quiescent, is_running}
use Rattle.board.specs.Causes.{no_worker, not_running}
use Rattle.board.specs.Machine.{Unfinished, Machine, changed, marked_count}
use Rattle.board.specs.Sequence.{Run}
use Rattle.predicate.proofs.Bools.{split, clash, not-off}
use Rattle.board.proofs.Laws.View.{View, view, logs, place_of, line-high}
use Rattle.board.proofs.Laws.Only.{OnlyAt, at_places}
use Rattle.board.proofs.Invariant.{Undo, WorkerInv, BeforeStore, Touches, Dirty, Early, Stage, early, gap, late, RunningInv, InPhase, Inv}
use Rattle.board.specs.Checkpoint.{write_line, progress, acts}
use Rattle.board.proofs.Checkpoint.Acts.{acts-length, dirty-pending}
use Rattle.board.proofs.Laws.Dirty.{dirty-count, marked-line}
use Rattle.board.proofs.Laws.Taken.{limits-in, own-seat}
use Rattle.board.proofs.Laws.Workers.{condition-at, condition-other}
use Rattle.board.proofs.Laws.Rows.{header-same, own_same, sizes-same}
use Rattle.board.proofs.Laws.Count.{changed-at, changed-other, at_each}

-- ---- one location

-- What holds of location `u` before the epoch's store: `e` is memory's epoch, `x` the checkpointed value, `y` the current one.
pub record LocationInv (u : Location) (e x y : ℕ) (marked : Bool) (memory v : View) : Type 0 where
  pub undo : Undo u e x v
  pub current : v.value ≡ y
  pub marks : marked ≡ logs u e v
  pub clean : logs u e v ≡ false → memory.value ≡ v.value

-- Each location of an early board.
pub location-inv : {σ : Shape} {b : Board} {m : Machine} → RunningInv σ b m → Early σ b m → (u : Location) → Has σ u →
    LocationInv u (epoch_of b.memory) (m.checkpointed u) (m.current u) (m.marked u) (view b.memory u) (view b.cache u)
location-inv run ear u h = record { undo = run.rows.undoes u h; current = run.rows.current u h; marks = ear.marks u h; clean = ear.clean u h }

-- ---- what changes

-- What a start or a store leaves: the worker, the place of what it changes, and what is put anew of board and machine.
pub record Change : Type 0 where
  pub worker : ℕ
  pub place : ℕ
  pub condition : Condition
  pub dirty : List ℕ
  pub cache : List ℕ
  pub current : Location → ℕ
  pub marked : Location → Bool
  pub unfinished : Unfinished

-- The board after a change.
abbrev pub changed_board : Change → Board → Board
changed_board ch b =
    let s = conditioned b.state ch.worker ch.condition in
    let state : State = record { phase = s.phase; lines = s.lines; workers = s.workers; place = s.place; undo = s.undo; requested = s.requested; holders = s.holders; dirty = ch.dirty; worker = s.worker } in
    record { state = state; memory = b.memory; cache = ch.cache }

-- The machine after a change.
abbrev pub changed_machine : Change → Machine → Machine
changed_machine ch m =
    record { current = ch.current; checkpointed = m.checkpointed; marked = ch.marked; unfinished = changed m.unfinished ch.worker ch.unfinished; requested = m.requested; steps = m.steps; formatting = m.formatting; shape = m.shape }

-- What must be shown of a change: nothing but what stands at the place differs, what is put anew fits, and no other worker has an update of the cell.
pub record ChangeFits (b : Board) (m : Machine) (ch : Change) : Type 0 where
  pub only : OnlyAt m.shape ch.place b.cache ch.cache
  pub currents : (u : Location) → (place_of u ≡ ch.place → ⊥) → ch.current u ≡ m.current u
  pub marks : (u : Location) → (place_of u ≡ ch.place → ⊥) → ch.marked u ≡ m.marked u
  pub here : (u : Location) → Has m.shape u → place_of u ≡ ch.place →
      LocationInv u (epoch_of b.memory) (m.checkpointed u) (ch.current u) (ch.marked u) (view b.memory u) (view ch.cache u)
  pub dirty : Dirty m.shape ch.dirty ch.marked
  pub worker : WorkerInv m.shape ch.cache ch.condition ch.unfinished
  pub own : (d : ℕ) → Touches ch.condition d → ch.place ≡ d
  pub alone : (u : ℕ) → u < b.state.workers → (ch.worker ≡ u → ⊥) → Touches (condition_of b.state u) ch.place → ⊥

-- A running board before the epoch's store, worker `w` being one of its workers that neither waits nor is away.
pub record Working (r : Run) (w : ℕ) : Type 0 where
  pub phase : r.board.state.phase ≡ Running
  pub run : RunningInv r.machine.shape r.board r.machine
  pub stage : Early r.machine.shape r.board r.machine
  pub unbegun : progress r.board.state ≡ 0
  pub erased : r.erased ≡ false
  pub under : w < r.board.state.workers

-- A worker of which a test holds that fails of one waiting or away is neither.
not-quiescent : (test : Condition → Bool) → test Waiting ≡ false → test Away ≡ false → (k : Condition) → not (test k) ≡ false → quiescent k ≡ false
not-quiescent test waits leaves Free e = refl
not-quiescent test waits leaves Waiting e = absurd (clash (not-off (test Waiting) e) waits)
not-quiescent test waits leaves (Updating next c v) e = refl
not-quiescent test waits leaves Away e = absurd (clash (not-off (test Away) e) leaves)

-- A taken call that asks for a running board and for a worker in a condition other than waiting or away: no step of a checkpoint was taken.
pub working : (r : Run) (w : ℕ) (test : Condition → Bool) → test Waiting ≡ false → test Away ≡ false → Inv r → r.crashed ≡ false →
    not_running r.board ≡ false → no_worker r.board.state w ≡ false → not (test (condition_of r.board.state w)) ≡ false → Working r w
working r w test waits leaves inv crashed on worker holds = go r.board.state.phase refl (not-off (is_running r.board.state.phase) on) (inv.phase crashed)
  where
    under : w < r.board.state.workers
    under = leb-false r.board.state.workers w worker

    off : quiescent (condition_of r.board.state w) ≡ false
    off = not-quiescent test waits leaves (condition_of r.board.state w) holds

    staged : Stage r.machine.shape r.board r.machine → Early r.machine.shape r.board r.machine
    staged (early e) = e
    staged (gap g) = absurd (clash (g.waiting w under) off)
    staged (late t) = absurd (clash (t.waiting w under) off)

    unbegun : Early r.machine.shape r.board r.machine → progress r.board.state ≡ 0
    unbegun e =
        elim (ℕ_discrete (progress r.board.state) 0) [
          | yes z ↦ z
          | no o ↦ absurd (clash (e.waiting (omega arith) w under) off)
        ]

    go : (p : Phase) → r.board.state.phase ≡ p → is_running p ≡ true → InPhase p r → Working r w
    go Off e t i = absurd i
    go Formatting e t i = absurd (clash t refl)
    go Recovering e t i = absurd (clash t refl)
    go Running e t i =
        let ear = staged i.0.checkpoint.stage in
        record { phase = e; run = i.0; stage = ear; unbegun = unbegun ear; erased = i.1; under = under }

-- ---- the workers after a change

-- A worker's update of another cell is as it was.
worker-other : (σ : Shape) {c : ℕ} {cache cache' : List ℕ} → OnlyAt σ c cache cache' → (k : Condition) (u : Unfinished) → (Touches k c → ⊥) →
    WorkerInv σ cache k u → WorkerInv σ cache' k u
worker-other σ only Free u o inv = inv
worker-other σ only Waiting u o inv = inv
worker-other σ only Away u o inv = inv
worker-other σ only (Updating next d v) u o inv =
    (inv.0, inv.1, subst₂ (λ (e : ℕ) (x : View). BeforeStore next d e x) (sym (only.header 0 (omega arith))) (sym (only.others (cell d) inv.1 o)) inv.2)

-- ---- the lemma

-- The run after a change; nothing is asked of whether a cut fell.
abbrev pub changed_run : Change → Bool → Run → Run
changed_run ch crashed r =
    record { board = changed_board ch r.board; machine = changed_machine ch r.machine; crashed = crashed; erased = r.erased }

module _ (b : Board) (m : Machine) (ch : Change) (run : RunningInv m.shape b m) (ear : Early m.shape b m) (unbegun : progress b.state ≡ 0) (under : ch.worker < b.state.workers) (fits : ChangeFits b m ch) where
  -- Every location after a change.
  each-location : (u : Location) → Has m.shape u →
      LocationInv u (epoch_of b.memory) (m.checkpointed u) (ch.current u) (ch.marked u) (view b.memory u) (view ch.cache u)
  each-location =
      at_places
      (λ (u : Location). Has m.shape u → LocationInv u (epoch_of b.memory) (m.checkpointed u) (ch.current u) (ch.marked u) (view b.memory u) (view ch.cache u))
      ch.place (λ u e h. fits.here u h e)
      (λ u o h. subst₃ (λ (y : ℕ) (t : Bool) (v : View). LocationInv u (epoch_of b.memory) (m.checkpointed u) y t (view b.memory u) v) (sym (fits.currents u o)) (sym (fits.marks u o)) (sym (fits.only.others u h o)) (location-inv run ear u h))

  -- The cache's epoch after a change.
  same-epoch : epoch_of ch.cache ≡ epoch_of b.cache
  same-epoch = fits.only.header 0 (omega arith)

  -- No checkpoint's step was taken.
  not-begun : 0 < progress b.state → ⊥
  not-begun h = omega arith

  -- Every line is one that has a bit.
  few : m.shape.lines ≤ 511
  few = (limits-in m.shape b.state.workers run.own.limits).lines

  -- A location whose line is not to be written is not logged.
  unwritten : (u : Location) → Has m.shape u → (Memᴰ (write_line (line_for u)) (acts (changed_board ch b)) → ⊥) →
      (view b.memory u).value ≡ (view ch.cache u).value
  unwritten u h o =
      let e = epoch_of b.memory in
      split (logs u e (view ch.cache u))
      (λ t. absurd (o (dirty-pending (changed_board ch b) (line_for u) unbegun (marked-line ch.dirty ch.marked fits.dirty u h ((each-location u h).marks ∙ t)) (omega (arith, line-high u h, few)))))
      (λ f. (each-location u h).clean f)

  -- The board is still before the epoch's store.
  early-after : Early m.shape (changed_board ch b) (changed_machine ch m)
  early-after =
      record {
        epochs = same-epoch ∙ ear.epochs;
        marks = λ u h. (each-location u h).marks;
        clean = λ u h. (each-location u h).clean;
        written = unwritten;
        left = omega (arith, acts-length (changed_board ch b));
        waiting = λ h. absurd (not-begun h);
        room = λ t e. ear.room t (sym same-epoch ∙ e);
      }

  -- The machine has counted no step, before and after.
  steps-after : b.state.requested ≡ true → m.steps + length (acts (changed_board ch b)) ≡ marked_count (changed_machine ch m) + 3
  steps-after on =
      omega (arith, run.checkpoint.steps on, acts-length b, acts-length (changed_board ch b), dirty-count b.state.dirty m.marked run.checkpoint.dirty few, dirty-count ch.dirty ch.marked fits.dirty few)

  -- The worker after a change, and every other.
  at : condition_of (changed_board ch b).state ch.worker ≡ ch.condition
  at = condition-at b.state ch.worker ch.condition (own-seat b.state run.own under)

  other : (u : ℕ) → (ch.worker ≡ u → ⊥) → condition_of (changed_board ch b).state u ≡ condition_of b.state u
  other = condition-other b.state ch.worker ch.condition

  -- Every worker's update is as the machine has it.
  each-worker : (u : ℕ) → u < b.state.workers →
      WorkerInv m.shape ch.cache (condition_of (changed_board ch b).state u) (changed m.unfinished ch.worker ch.unfinished u)
  each-worker =
      at_each
      (λ (u : ℕ). u < b.state.workers → WorkerInv m.shape ch.cache (condition_of (changed_board ch b).state u) (changed m.unfinished ch.worker ch.unfinished u))
      ch.worker
      (λ h. subst₂ (λ (k : Condition) (x : Unfinished). WorkerInv m.shape ch.cache k x) (sym at) (sym (changed-at m.unfinished ch.worker ch.unfinished)) fits.worker)
      (λ u o h.
      subst₂ (λ (k : Condition) (x : Unfinished). WorkerInv m.shape ch.cache k x) (sym (other u o)) (sym (changed-other m.unfinished ch.worker ch.unfinished u o))
      (worker-other m.shape fits.only (condition_of b.state u) (m.unfinished u) (fits.alone u h o) (run.workers.each u h)))

  -- No other worker has an update of a cell that the worker has one of.
  met : (u d : ℕ) → u < b.state.workers → (ch.worker ≡ u → ⊥) → Touches (condition_of (changed_board ch b).state u) d →
      Touches (condition_of (changed_board ch b).state ch.worker) d → ⊥
  met u d h o t t' =
      let own : d ≡ ch.place = sym (fits.own d (subst (λ (k : Condition). Touches k d) at t')) in
      fits.alone u h o (subst₂ (λ (k : Condition) (i : ℕ). Touches k i) (other u o) own t)

  -- Two unfinished updates have two cells.
  apart-after : (u u' d : ℕ) → u < b.state.workers → u' < b.state.workers → Touches (condition_of (changed_board ch b).state u) d →
      Touches (condition_of (changed_board ch b).state u') d → u ≡ u'
  apart-after u u' d h h' t t' =
      elim (ℕ_discrete ch.worker u) [
        | yes e ↦ elim (ℕ_discrete ch.worker u') [
          | yes e' ↦ sym e ∙ e'
          | no o' ↦ absurd (met u' d h' o' t' (subst (λ (i : ℕ). Touches (condition_of (changed_board ch b).state i) d) (sym e) t))
        ]
        | no o ↦ elim (ℕ_discrete ch.worker u') [
          | yes e' ↦ absurd (met u d h o t (subst (λ (i : ℕ). Touches (condition_of (changed_board ch b).state i) d) (sym e') t'))
          | no o' ↦ run.workers.apart u u' d h h' (subst (λ (k : Condition). Touches k d) (other u o) t) (subst (λ (k : Condition). Touches k d) (other u' o') t')
        ]
      ]

  -- A running board stays one.
  running-after : RunningInv m.shape (changed_board ch b) (changed_machine ch m)
  running-after =
      record {
        own = record { shape = run.own.shape; limits = run.own.limits; holders = run.own.holders; eight = length-set b.state.worker ch.worker (record { condition = ch.condition }) ∙ run.own.eight };
        rows =
            record {
              sizes = own_same (sizes-same b.memory) (λ k p q. fits.only.header k q) run.rows.sizes;
              header = header-same b.cache ch.cache fits.only.header run.rows.header;
              undoes = λ u h. (each-location u h).undo;
              current = λ u h. (each-location u h).current;
              spare = λ i k h n p q. fits.only.spare i k p q ∙ run.rows.spare i k h n p q;
            };
        workers = record { each = each-worker; apart = apart-after };
        checkpoint = record { request = run.checkpoint.request; dirty = fits.dirty; steps = steps-after; stage = early early-after };
      }

-- A change of one worker and at one place that fits keeps the invariant.
pub one_place : (r : Run) (ch : Change) (crashed : Bool) → Inv r → Working r ch.worker → ChangeFits r.board r.machine ch →
    Inv (changed_run ch crashed r)
one_place r ch crashed inv now fits =
    record {
      sizes = record { limits = inv.sizes.limits; memory = inv.sizes.memory; cache = record { size = fits.only.size ∙ inv.sizes.cache.size } };
      kept = inv.kept;
      lost = inv.lost;
      phase = λ d. subst (λ (p : Phase). InPhase p (changed_run ch crashed r)) (sym now.phase)
          (running-after r.board r.machine ch now.run now.stage now.unbegun now.under fits, now.erased);
    }
