-- An update that is started ends: its advances are taken, undisturbed, and then a read gives its value.
use Prim.Native.Nat.{ℕ, suc, ◌<◌}
use mathlib.Core.Path.{◌≡◌, refl, sym, ap, subst, ◌∙◌}
use mathlib.Core.Logic.{◌⊎◌, inl, inr}
use mathlib.Core.Bool.{Bool, true, false, cond, ◌&&◌}
use lib.Dec.{ltb}
use lib.ListN.{length}
use borrow.Author.Tests.{lt-leb}
use Rattle.board.specs.declared.Condition.{Condition}
use Rattle.board.specs.declared.Condition.TheVariants.{Free, Waiting, Updating}
use Rattle.board.specs.declared.Store.{Store}
use Rattle.board.specs.declared.Store.TheVariants.{Backup, Mark, Record}
use Rattle.board.specs.declared.Phase.TheVariants.{Running}
use Rattle.board.specs.declared.Call.{Call}
use Rattle.board.specs.declared.Call.TheVariants.{Update, RestartPoint, Advance, Read}
use Rattle.board.specs.Board.{Board, Shape, cells}
use Rattle.board.specs.State.{condition_of, is_free, is_updating, is_running}
use Rattle.board.specs.Causes.{causes, bad_rows}
use Rattle.board.specs.Location.{cell, logged}
use Rattle.board.specs.Effects.{first_store, noted, after_last, advance, advance_of, effect}
use Rattle.board.specs.Next.{Taken, value_of, Performed}
use Rattle.board.specs.Machine.{Machine, Unfinished, fewer, advanced, feed}
use Rattle.board.specs.Sequence.{Run}
use Rattle.board.specs.Statements.{Starts, updates, restarts, Advances, over, advances}
use Rattle.predicate.proofs.Bools.{on, decide, and-off, not_on_lem}
use Rattle.board.proofs.Laws.Taken.{stands_at, passed, Clear, take, taken_next, performed-taken, performing, rows-fine, own-seat, after_taken}
use Rattle.board.proofs.Laws.View.{put-at}
use Rattle.board.proofs.Laws.Reading.{running-record, read_taken_lem, read-current}
use Rattle.board.proofs.Invariant.{Inv, WorkerInv}
use Rattle.board.proofs.Laws.Workers.{condition-at}
use Rattle.board.proofs.Keeps.OnePlace.{Working, working}
use Rattle.board.proofs.Keeps.Update.{keeps-update, keeps-restart, marked-logged, update-cell, restart-cell}
use Rattle.board.proofs.Keeps.Advance.{carried-advance}

-- ---- one advance

-- Worker `w` of a running board has the store `next` of its update of cell `c` before it.
record Before (r : Run) (w c v : ℕ) (next : Store) : Type 0 where
  inv : Inv r
  uncut : r.crashed ≡ false
  phase : r.board.state.phase ≡ Running
  under : w < r.board.state.workers
  here : condition_of r.board.state w ≡ Updating next c v

module _ {r : Run} {w c v : ℕ} {next : Store} (u : Before r w c v next) where
  -- What is known of the board then.
  now : Working r w
  now =
      working r w is_updating refl refl u.inv u.uncut (not_on_lem (is_running r.board.state.phase) (ap is_running u.phase))
      (lt-leb r.board.state.workers w u.under) (not_on_lem (is_updating (condition_of r.board.state w)) (ap is_updating u.here))

  -- The worker's update is the machine's.
  own : WorkerInv r.machine.shape r.board.cache (Updating next c v) (r.machine.unfinished w)
  own = subst (λ (k : Condition). WorkerInv r.machine.shape r.board.cache k (r.machine.unfinished w)) u.here (now.run.workers.each w u.under)

  -- The advance is taken.
  advance-taken : Taken (Advance w) r.board
  unfolding Clear causes
  advance-taken =
      let s = r.board.state in
      let σ = r.machine.shape in
      take (Advance w) r.board (
        not_on_lem (is_running s.phase) (ap is_running u.phase),
        (
          running-record r.board r.machine u.phase now.run,
          (
            subst (λ (τ : Shape). bad_rows τ.lines r.board ≡ false) (sym now.run.own.shape) (rows-fine σ r.board u.inv.sizes),
            (lt-leb s.workers w u.under, (not_on_lem (is_updating (condition_of s w)) (ap is_updating u.here), tt)),
          ),
        ),
      )

  -- What it leaves of the board.
  advanced-board : effect (Advance w) r.board ≡ advance next w c v r.board.state r.board
  unfolding effect advance_of
  advanced-board = ap (λ (k : Condition). advance_of k w r.board.state r.board) u.here

  -- The run after it.
  after : Run
  after = after_taken (Advance w) r

  after-inv : Inv (after_taken (Advance w) r)
  after-inv = (carried-advance r w u.inv u.uncut advance-taken).keeps

  after-uncut : (after_taken (Advance w) r).crashed ≡ false
  after-uncut = and-off r.crashed true u.uncut

  -- The worker's place in the state record.
  seat : w < length r.board.state.worker
  seat = own-seat r.board.state now.run.own u.under

  -- An advance after which the update goes on, to the store `then`.
  goes_on : (then : Store) →
      ((advance next w c v r.board.state r.board).state.phase ≡ Running) × (w < (advance next w c v r.board.state r.board).state.workers) × (condition_of (advance next w c v r.board.state r.board).state w ≡ Updating then c v) →
      Before (after_taken (Advance w) r) w c v then
  goes_on then p =
      record {
        inv = after-inv;
        uncut = after-uncut;
        phase = ap (λ (b : Board). b.state.phase) advanced-board ∙ p.0;
        under = subst (λ (b : Board). w < b.state.workers) (sym advanced-board) p.1;
        here = ap (λ (b : Board). condition_of b.state w) advanced-board ∙ p.2;
      }

  -- The contract of the advance.
  advance-performed : Performed (Advance w) r.board 0 (value_of (Advance w) r.board) (effect (Advance w) r.board)
  advance-performed = performing (Advance w) r.board advance-taken refl (sym (taken_next (Advance w) r.board advance-taken))

-- ---- the three advances

-- What an update ends in.
abbrev UpdateEnded : ℕ → ℕ → ℕ → ℕ → Board → Type 0
UpdateEnded w c v n b =
    (b' : Board) × (Advances w n b b' × ((condition_of b'.state w ≡ Free) ⊎ (condition_of b'.state w ≡ Waiting)) × Performed (Read c) b' 0 v b')

-- One advance more.
ends_more : (w c v n : ℕ) (b : Board) {value : ℕ} {d : Board} → Performed (Advance w) b 0 value d → UpdateEnded w c v n d → UpdateEnded w c v (suc n) b
ends_more w c v n b p (b', rest) = (b', (advances p rest.0, rest.1, rest.2))

-- The last store.
last-store : {r : Run} {w c v : ℕ} → Before r w c v Record → UpdateEnded w c v 1 r.board
unfolding advance effect feed advanced fewer value_of
last-store {r} {w} {c} {v} u =
    let r' = after_taken (Advance w) r in
    let s = r.board.state in
    let b' = effect (Advance w) r.board in
    let same = advanced-board u in
    let phase : b'.state.phase ≡ Running = ap (λ (b : Board). b.state.phase) same ∙ u.phase in
    let machine : feed (Advance w) r.machine ≡ fewer 0 w (cell c) v r.machine = ap (λ (x : Unfinished). advanced x w r.machine) (own u).0 in
    let here : c < cells r'.machine.shape = subst (λ (m : Machine). c < cells m.shape) (sym machine) (own u).1 in
    let t = read_taken_lem r' (after-inv u) (after-uncut u) phase c here in
    let read = read-current r' (after-inv u) (after-uncut u) phase c here ∙ ap (λ (m : Machine). m.current (cell c)) machine ∙ put-at r.machine.current (cell c) v in (
      b',
      (
        advances (advance-performed u) over,
        subst (λ (k : Condition). (k ≡ Free) ⊎ (k ≡ Waiting)) (sym (ap (λ (b : Board). condition_of b.state w) same ∙ condition-at s w (after_last s c) (seat u)))
            (on (λ (k : Condition). (k ≡ Free) ⊎ (k ≡ Waiting)) (ltb c s.workers && s.requested) Waiting Free (λ e. inr refl) (λ e. inl refl)),
        performing (Read c) b' t (sym read) (sym (taken_next (Read c) b' t)),
      ),
    )

-- All three stores.
three-stores : {r : Run} {w c v : ℕ} → Before r w c v Backup → UpdateEnded w c v 3 r.board
unfolding advance
three-stores {r} {w} {c} {v} u =
    let marks = goes_on u Mark (u.phase, u.under, condition-at r.board.state w (Updating Mark c v) (seat u)) in
    let r' = after_taken (Advance w) r in
    let records = goes_on marks Record (marks.phase, marks.under, condition-at r'.board.state w (Updating Record c v) (seat marks)) in
    ends_more w c v 2 r.board (advance-performed u) (ends_more w c v 1 r'.board (advance-performed marks) (last-store records))

-- ---- from the start on

-- The worker right after the start of its update.
module _ (r : Run) (w c v : ℕ) (k : Call) (inv : Inv (after_taken k r)) (uncut : (after_taken k r).crashed ≡ false) (ready : Working r w) (inside : c < cells r.machine.shape) (effects : effect k r.board ≡ noted w c v r.board) where
  started : Before (after_taken k r) w c v (first_store r.board.cache c)
  started =
      record {
        inv = inv;
        uncut = uncut;
        phase = ap (λ (b : Board). b.state.phase) effects ∙ ready.phase;
        under = subst (λ (b : Board). w < b.state.workers) (sym effects) ready.under;
        here = ap (λ (b : Board). condition_of b.state w) effects
            ∙ condition-at r.board.state w (Updating (first_store r.board.cache c) c v)
            (own-seat r.board.state ready.run.own ready.under);
      }

  -- It ends in as many advances as the machine gives it.
  started-ends : UpdateEnded w c v (cond (r.machine.marked (cell c)) 1 3) (effect k r.board)
  started-ends =
      subst (λ (t : Bool). UpdateEnded w c v (cond t 1 3) (effect k r.board)) (sym (marked-logged r ready (cell c) inside))
      (decide (λ (t : Bool). Before (after_taken k r) w c v (cond t Record Backup) → UpdateEnded w c v (cond t 1 3) (effect k r.board)) (logged r.board.cache (cell c)) (λ t. last-store) (λ t. three-stores) started)

-- A started update or restart point ends, where the invariant holds.
pub update-ends : (r : Run) → Inv r → r.crashed ≡ false → (w c v : ℕ) (k : Call) → Starts w c v k → (value : ℕ) (b : Board) →
    Performed k r.board 0 value b → UpdateEnded w c v (cond (r.machine.marked (cell c)) 1 3) b
unfolding stands_at causes effect
update-ends r inv d w c v k (updates) value b p =
    let (t, same) = performed-taken (Update w c v) r.board p refl in
    let pass = passed (Update w c v) r.board t in
    let now = working r w is_free refl refl inv d (pass 2) (pass 6) (pass 8) in
    subst (UpdateEnded w c v (cond (r.machine.marked (cell c)) 1 3)) (sym same)
    (started-ends r w c v (Update w c v) (keeps-update r w c v inv d t) (and-off r.crashed true d) now (update-cell r w c v now t) refl)
update-ends r inv d w c v k (restarts e) value b p =
    let (t, same) = performed-taken (RestartPoint w v) r.board p refl in
    let pass = passed (RestartPoint w v) r.board t in
    let now = working r w is_free refl refl inv d (pass 2) (pass 6) (pass 8) in
    subst (λ (x : ℕ). UpdateEnded w x v (cond (r.machine.marked (cell x)) 1 3) b) (sym e)
    (subst (UpdateEnded w w v (cond (r.machine.marked (cell w)) 1 3)) (sym same)
    (started-ends r w w v (RestartPoint w v) (keeps-restart r w v inv d t) (and-off r.crashed true d) now (restart-cell r w now) refl))
