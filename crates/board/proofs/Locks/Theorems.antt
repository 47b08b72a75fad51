-- Every statement of `specs/Locks.antt`.
use Prim.Native.Nat.{ℕ, ◌*◌, ◌%◌, ◌≤◌, ◌<◌}
use mathlib.Core.Path.{◌≡◌, refl, sym, ap, subst, ◌∙◌}
use mathlib.Core.Logic.{◌⊎◌, inl, inr, ◌↔◌}
use mathlib.Core.List.{List, ◌∷◌}
use mathlib.Core.Bool.{Bool, true, false, cond, not, ◌&&◌, ◌||◌, true≢false, false≢true}
use native.Mathlib.Omega.{arith}
use lib.Dec.{leb, ltb, eqb}
use borrow.Author.Tests.{leb-false, ltb-false, lt-leb, le-ltb, le-leb, leb-true, eq-eqb, ne_eqb, eqb-true}
use Rattle.locks.specs.Holders.{holds, unheld, held_by, given_back}
use Rattle.locks.proofs.Holders.{any_none, none_any, one-holder, free-none, none_free, held-own, held-other, back-unheld, back-other, from-under}
use Rattle.board.specs.declared.State.{State}
use Rattle.board.specs.declared.Condition.{Condition}
use Rattle.board.specs.declared.Condition.TheVariants.{Free, Waiting, Updating, Away}
use Rattle.board.specs.declared.Store.{Store}
use Rattle.board.specs.declared.Call.{Call}
use Rattle.board.specs.declared.Phase.{Phase}
use Rattle.board.specs.declared.Phase.TheVariants.{Off, Formatting, Recovering, Running}
use Rattle.board.specs.declared.Call.TheVariants.{FormatStart, RecoveryStart, Update, RestartPoint, TakeLock, GiveBackLock}
use Rattle.board.specs.Board.{Board, shape_of, cells}
use Rattle.board.specs.State.{condition_of, is_free, updates, is_off, is_formatting, is_recovering, is_running, updates_under, lock_of, locked}
use Rattle.board.specs.Causes.{Cause, check, bad_record, causes, first_standing, cause}
use Rattle.board.specs.Effects.{stated, effect}
use Rattle.board.specs.Next.{Taken, next, Performed, kind, is_start}
use Rattle.board.specs.Page.{page_causes, page_cause}
use Rattle.board.specs.Sequence as sequence
use Rattle.board.specs.Machine.{Machine}
use Rattle.board.specs.Sequence.{Run, Takes, Begins, History, called, taken_call, unfed}
use Rattle.board.specs.Locks.{FromStart, starts, performs, stays, NoConflict, LocksHeld, OneHolder, HeldOrFree, StrayHolder, allows, StrayHolders, FreeWorker, NoneUnder, LockAnswers, OnlyHolders, TakesLock, GivesLockBack}
use Rattle.predicate.proofs.Bools.{chosen, passed_over, decide, split, clash, or_left, or_right, or-none, and_both, and-if, not-off, not_on_lem}
use Rattle.board.proofs.Laws.Taken.{Clear, take, stands_at, passed, performed-number, taken_next, record-within, eight-within, ByEffect, quiet, the_format, the_recovery, the_step, the_update, the_restart, the_advance, the_request, the_write_back, the_going, the_coming, the_taking, the_giving, by-effect}
use Rattle.board.proofs.Laws.Workers.{is_free_lem}
use Rattle.board.proofs.Laws.Reading.{Passes, running-passes}
use Rattle.board.proofs.Checkpoint.Run.{is-running}
use Rattle.board.proofs.Keeps.Every.{history-inv}
use Rattle.board.proofs.Locks.Held.{None, Holding, LockInv, locks-inv}
use Rattle.board.proofs.Locks.Conflict.{none_other, never-nine}
pub use Rattle.board.proofs.Locks.Record.{holders-stay}

-- ---- no conflict

pub no-conflict : NoConflict
no-conflict b f k number value b' p e = never-nine (by-effect k) b (locks-inv f) (sym (performed-number k b p) ∙ e)

-- ---- who holds a lock

pub locks-held : LocksHeld
locks-held b f =
    let s = b.state in
    let i = locks-inv f in
    let at : (w : ℕ) (k : Condition) → condition_of s w ≡ k → Holding s.workers s.holders w k = λ w k e. subst (Holding s.workers s.holders w) e (i.holding w) in
    record {
      own = λ w c v n e l. (at w (Updating n c v) e).0 l;
      restart = λ w c v n e l. (at w (Updating n c v) e).1 l;
      waiting = waits s i;
      under = λ w k l h. from-under s.holders s.workers i.under w k l h;
    }
  where
    waits : (s : State) → LockInv s → (w : ℕ) → (condition_of s w ≡ Waiting) ⊎ (condition_of s w ≡ Away) → None s.holders w
    waits s i w (inl e) = subst (Holding s.workers s.holders w) e (i.holding w)
    waits s i w (inr e) = subst (Holding s.workers s.holders w) e (i.holding w)

pub one-holder-each : OneHolder
one-holder-each holders w v k p q = one-holder holders w v k p q

pub held-or-free : HeldOrFree
held-or-free holders k = (λ t w. free-none holders w k t, none_free holders k)

-- ---- a holder that is not there

-- A table whose second line is of cause 3 answers 3 where that line stands and the phase's does not.
third : (phase bad : Bool) (ks : List Cause) → phase ≡ false → bad ≡ true → first_standing (check 2 phase ∷ check 3 bad ∷ ks) ≡ 3
unfolding first_standing
third phase bad ks off on = passed_over phase 2 _ off ∙ chosen bad 3 (first_standing ks) on

-- A phase that is not off.
not-off-off : (off : Bool) → not off ≡ true → off ≡ false
not-off-off false e = refl
not-off-off true e = absurd (false≢true e)

-- A recovering or running board may be written back.
writable : (p : Phase) → is_recovering p || is_running p ≡ true → is_off p || is_formatting p ≡ false
writable Off e = absurd (false≢true e)
writable Formatting e = absurd (false≢true e)
writable Recovering e = refl
writable Running e = refl

module _ (b : Board) (bad : bad_record b.state ≡ true) where
  -- Cause 3 bars every call that the phase lets pass but the starts.
  bars : {k : Call} → ByEffect k → is_start (kind k) ≡ false → allows b.state.phase (kind k) ≡ true → cause k b ≡ 3
  unfolding cause causes
  bars (quiet q) s on = ap first_standing (q.table b) ∙ third _ _ _ (not_on_lem (is_running b.state.phase) (sym (q.allowed b.state.phase) ∙ on)) bad
  bars (the_format l w) s on = absurd (true≢false s)
  bars the_recovery s on = absurd (true≢false s)
  bars the_step s on = third _ _ _ (not-off-off (is_off b.state.phase) on) bad
  bars (the_update w c v) s on = third _ _ _ (not_on_lem _ on) bad
  bars (the_restart w v) s on = third _ _ _ (not_on_lem _ on) bad
  bars (the_advance w) s on = third _ _ _ (not_on_lem _ on) bad
  bars the_request s on = third _ _ _ (not_on_lem _ on) bad
  bars (the_write_back l) s on = third _ _ _ (writable b.state.phase on) bad
  bars (the_going w) s on = third _ _ _ (not_on_lem _ on) bad
  bars (the_coming w) s on = third _ _ _ (not_on_lem _ on) bad
  bars (the_taking w k) s on = third _ _ _ (not_on_lem _ on) bad
  bars (the_giving w k) s on = third _ _ _ (not_on_lem _ on) bad

  -- And every page of a running board.
  bars-page : (text : List ℕ) → is_running b.state.phase ≡ true → page_cause b text ≡ 3
  unfolding page_cause page_causes
  bars-page text on = third _ _ _ (not_on_lem _ on) bad

-- A lock's holder that is not there is cause 3.
stray-bad : (s : State) → StrayHolder s → bad_record s ≡ true
stray-bad s x =
    split (bad_record s) (λ t. t)
    (λ f. let under = from-under s.holders s.workers (record-within s f).holders x.worker x.lock x.one x.held in absurd (omega (arith, x.past)))

pub stray-holders : StrayHolders
stray-holders b x = let bad = stray-bad b.state x in (λ k. bars b bad (by-effect k), bars-page b bad)

-- ---- a history leads from a taken start

-- The calls of a finished format or recovery.
from-takes : {n : ℕ} {b b' : Board} → FromStart b → Takes n b b' → FromStart b'
from-takes f sequence.finished = f
from-takes f (sequence.steps p t) = from-takes (performs _ f p) t
from-takes f (sequence.between k p a t) = from-takes (performs k f p) t
from-takes f (sequence.stays q t) = from-takes (stays f q) t

-- The beginning of a history.
from-begins : {b : Board} {m : Machine} → Begins b m → FromStart b
from-begins (sequence.formatted l w value b d b' p t) = from-takes (starts (FormatStart l w) b refl p) t
from-begins (sequence.recovery_started value b b' p) = starts RecoveryStart b refl p

-- A call, where after a cut it is a start.
from-call : (r : Run) (k : Call) (number value : ℕ) (b : Board) → (r.crashed ≡ false → FromStart r.board) →
    Performed k r.board number value b → (r.crashed ≡ true → number ≡ 0 → is_start (kind k) ≡ true) → (called k number b r).crashed ≡ false →
    FromStart (called k number b r).board
from-call r k number value b before p a =
    decide (λ (t : Bool). (cond t (taken_call k b r) (unfed b r)).crashed ≡ false → FromStart (cond t (taken_call k b r) (unfed b r)).board) (eqb number 0)
    (λ t off.
    let z = eqb-true number 0 t in
    split r.crashed (λ c. starts k r.board (a c z) (subst (λ (n : ℕ). Performed k r.board n value b) z p)) (λ c. performs k (before c) p))
    (λ t off. performs k (before off) p)

-- Where no cut fell since the last taken start, calls from a taken start led there.
from-history : (r : Run) → History r → r.crashed ≡ false → FromStart r.board
from-history r (sequence.begun h) d = from-begins h
from-history r (sequence.further {r = q} h (sequence.performs k number value b p a)) d = from-call q k number value b (λ c. from-history q h c) p a d
from-history r (sequence.further {r = q} h (sequence.stays x)) d = stays (from-history q h d) x
from-history r (sequence.further h (sequence.cuts s cache p)) d = absurd (true≢false d)

-- ---- when a call is taken

-- No unfinished update under the lock, by the test and in plain words.
under-off : (s : State) (j : ℕ) (k : Condition) → ((c v : ℕ) (n : Store) → k ≡ Updating n c v → s.workers ≤ c → c % 16 ≡ j → ⊥) →
    updates (λ c. leb s.workers c && eqb (lock_of c) j) k ≡ false
under-off s j Free f = refl
under-off s j Waiting f = refl
under-off s j (Updating n c v) f =
    and-if (leb s.workers c) (eqb (lock_of c) j) (λ t. ne_eqb (lock_of c) j (f c v n refl (leb-true s.workers c t)))
under-off s j Away f = refl

off-under : (s : State) (w j : ℕ) → updates_under s w j ≡ false → NoneUnder s w j
off-under s w j off c v n e l q =
    clash
    (ap (updates (λ d. leb s.workers d && eqb (lock_of d) j)) e ∙ and_both (leb s.workers c) (eqb (lock_of c) j) (le-leb s.workers c l) (eq-eqb (lock_of c) j q))
    off

module _ (b : Board) (y : Passes b) (i : LockInv b.state) where
  abbrev s : State
  s = b.state

  -- The tests of a worker that is there and free.
  free-worker : (w : ℕ) → leb s.workers w ≡ false → not (is_free (condition_of s w)) ≡ false → FreeWorker s w
  free-worker w there free =
      record { there = leb-false s.workers w there; free = is_free_lem (condition_of s w) (not-off (is_free (condition_of s w)) free) }

  busy-off : (w : ℕ) → FreeWorker s w → not (is_free (condition_of s w)) ≡ false
  busy-off w f = not_on_lem (is_free (condition_of s w)) (ap is_free f.free)

  take-lock : (w k : ℕ) → Taken (TakeLock w k) b ↔ (FreeWorker s w × (k < 16) × (unheld s.holders k ≡ true))
  unfolding Clear stands_at causes
  take-lock w k =
      let pass = passed (TakeLock w k) b in (
        λ t. (free-worker w (pass t 6) (pass t 8), leb-false 16 k (pass t 15), not-off (unheld s.holders k) (pass t 16)),
        λ h. take (TakeLock w k) b (y.phase, (y.state, (y.rows, (lt-leb s.workers w h.0.there, (lt-leb 16 k h.1, (busy-off w h.0, (not_on_lem (unheld s.holders k) h.2, tt))))))),
      )

  give-back : (w k : ℕ) → Taken (GiveBackLock w k) b ↔ ((w < s.workers) × (k < 16) × NoneUnder s w k × (holds s.holders w k ≡ true))
  unfolding Clear stands_at causes
  give-back w k =
      let pass = passed (GiveBackLock w k) b in (
        λ t. (leb-false s.workers w (pass t 6), leb-false 16 k (pass t 15), off-under s w k (pass t 8), not-off (holds s.holders w k) (pass t 16)),
        λ h. take (GiveBackLock w k) b (y.phase, (y.state, (y.rows, (lt-leb s.workers w h.0, (lt-leb 16 k h.1, (under-off s k (condition_of s w) h.2, (not_on_lem (holds s.holders w k) h.3, tt))))))),
      )

  update-taken : (w c v : ℕ) → Taken (Update w c v) b ↔ (FreeWorker s w × (s.workers ≤ c) × (c < 2 * s.lines) × (holds s.holders w (c % 16) ≡ true))
  unfolding Clear stands_at causes
  update-taken w c v =
      let pass = passed (Update w c v) b in (
        λ t. (
          free-worker w (pass t 6) (pass t 8),
          ltb-false c s.workers (or_left (ltb c s.workers) (leb (cells (shape_of s)) c) (pass t 7)),
          leb-false (cells (shape_of s)) c (or_right (ltb c s.workers) (leb (cells (shape_of s)) c) (pass t 7)),
          not-off (holds s.holders w (lock_of c)) (pass t 16),
        ),
        λ h.
            take (Update w c v) b (
              y.phase,
              (
                y.state,
                (
                  y.rows,
                  (
                    lt-leb s.workers w h.0.there,
                    (
                      or-none (ltb c s.workers) (leb (cells (shape_of s)) c) (le-ltb c s.workers h.1) (lt-leb (cells (shape_of s)) c h.2),
                      (busy-off w h.0, (not_on_lem (holds s.holders w (lock_of c)) h.3, (none_other s w c i (λ l. h.3) (λ l. absurd (omega (arith, h.1))), tt))),
                    ),
                  ),
                ),
              ),
            ),
      )

  restart-taken : (w v : ℕ) → Taken (RestartPoint w v) b ↔ (FreeWorker s w × None s.holders w)
  unfolding Clear stands_at causes
  restart-taken w v =
      let pass = passed (RestartPoint w v) b in (
        λ t. (free-worker w (pass t 6) (pass t 8), any_none s.holders w (pass t 16)),
        λ h. take (RestartPoint w v) b (y.phase, (y.state, (y.rows, (lt-leb s.workers w h.0.there, (busy-off w h.0, (none_any s.holders w h.1, (none_other s w w i (λ l. absurd (omega (arith, h.0.there))) (λ l. refl), tt))))))),
      )

pub lock-answers : LockAnswers
lock-answers r h d e =
    let b = r.board in
    let y = running-passes r (history-inv r h) d (is-running b.state.phase e) in
    let i = locks-inv (from-history r h d) in
    record { takes = take-lock b y i; gives_back = give-back b y i; updates = update-taken b y i; restarts = restart-taken b y i }

-- ---- what the two calls change

only-holders : (b b' : Board) (holders : ℕ) → b' ≡ stated (locked b.state holders) b → OnlyHolders b b'
only-holders b b' holders e =
    subst (OnlyHolders b) (sym e)
    (record { phase = refl; lines = refl; workers = refl; place = refl; undo = refl; request = refl; dirty = refl; worker = refl; memory = refl; cache = refl })

pub takes-lock : TakesLock
unfolding effect stands_at causes
takes-lock w k b t =
    let h = b.state.holders in
    let pass = passed (TakeLock w k) b t in
    let under : w < 15 = omega (arith, eight-within b.state (pass 3), leb-false b.state.workers w (pass 6)) in
    let done = taken_next (TakeLock w k) b t in
    let now : (next (TakeLock w k) b).state.holders ≡ held_by h k w = ap (λ (d : Board). d.state.holders) done in (
      not-off (unheld h k) (pass 16),
      ap (λ (x : ℕ). holds x w k) now ∙ held-own h k w under,
      λ v j l o. ap (λ (x : ℕ). holds x v j) now ∙ held-other h k w v j under o,
      only-holders b (next (TakeLock w k) b) (held_by h k w) done,
    )

pub gives-lock-back : GivesLockBack
unfolding effect stands_at causes
gives-lock-back w k b t =
    let h = b.state.holders in
    let done = taken_next (GiveBackLock w k) b t in
    let now : (next (GiveBackLock w k) b).state.holders ≡ given_back h k = ap (λ (d : Board). d.state.holders) done in (
      not-off (holds h w k) (passed (GiveBackLock w k) b t 16),
      ap (λ (x : ℕ). unheld x k) now ∙ back-unheld h k,
      λ v j l o. ap (λ (x : ℕ). holds x v j) now ∙ back-other h k v j o,
      only-holders b (next (GiveBackLock w k) b) (given_back h k) done,
    )
