-- Going away and coming back keep the invariant, and when they are taken.
use Prim.Native.Nat.{ℕ, ◌<◌}
use mathlib.Core.Path.{◌≡◌, sym, ap, subst, ◌∙◌}
use mathlib.Core.Logic.{◌↔◌}
use mathlib.Core.List.{List}
use mathlib.Core.Bool.{Bool, true, false, ◌&&◌}
use native.Mathlib.Omega.{arith}
use lib.Dec.{ltb}
use lib.ListN.{length-set}
use borrow.Author.Tests.{leb-false, ltb-false, lt-leb, le-ltb}
use Rattle.locks.proofs.Holders.{any_none, none_any}
use Rattle.board.specs.Board.{Shape}
use Rattle.board.specs.declared.State.{State}
use Rattle.board.specs.declared.Condition.{Condition}
use Rattle.board.specs.declared.Condition.TheVariants.{Free, Away}
use Rattle.board.specs.declared.Phase.TheVariants.{Running}
use Rattle.board.specs.declared.Call.TheVariants.{GoAway, ComeBack}
use Rattle.board.specs.State.{condition_of, conditioned, is_free, is_away, is_running, quiescent}
use Rattle.board.specs.Causes.{causes, not_running, no_worker}
use Rattle.board.specs.Effects.{stated, effect}
use Rattle.board.specs.Next.{Taken}
use Rattle.board.specs.Machine.{Unfinished, none, feed}
use Rattle.board.specs.Sequence.{Run}
use Rattle.board.specs.Statements.{HoldsNone}
use Rattle.predicate.proofs.Bools.{split, chosen, passed_over, and-not, and-off, and-off-right, not-off, not_on_lem}
use Rattle.board.proofs.Invariant.{AllQuiescent, WorkerInv, Touches, Inv}
use Rattle.board.specs.Checkpoint.{progress}
use Rattle.board.proofs.Laws.Taken.{Clear, take, stands_at, passed, after_taken, own-seat}
use Rattle.board.proofs.Laws.Workers.{is_free_lem, is-away, condition-at, condition-other}
use Rattle.board.proofs.Laws.Reading.{running-passes}
use Rattle.board.proofs.Laws.Count.{at_each}
use Rattle.board.proofs.Checkpoint.Run.{Preserved, is-running, running-run}
use Rattle.board.proofs.Keeps.Quiet.{Alike, carried-workers}

-- ---- what the passed tests say

-- Where 13 does not stand, no step of a requested checkpoint was taken.
unbegun : (requested : Bool) (place : ℕ) → requested && ltb 0 place ≡ false → requested ≡ true → place ≡ 0
unbegun requested place e on = omega (arith, ltb-false 0 place (and-not requested (ltb 0 place) e on))

-- And the other way round.
begun-off : (requested : Bool) (place : ℕ) → (requested ≡ true → place ≡ 0) → requested && ltb 0 place ≡ false
begun-off requested place f =
    split requested
    (λ on. and-off-right requested (ltb 0 place) (le-ltb 0 place (omega (arith, f on))))
    (λ off. and-off requested (ltb 0 place) off)

-- ---- the invariant

-- A condition without an unfinished update.
record Idle (k : Condition) : Type 0 where
  none_left : (σ : Shape) (cache : List ℕ) (u : Unfinished) → WorkerInv σ cache k u → u ≡ none
  fits-none : (σ : Shape) (cache : List ℕ) (u : Unfinished) → u ≡ none → WorkerInv σ cache k u
  no_cell : (d : ℕ) → Touches k d → ⊥

free-idle : Idle Free
free-idle = record { none_left = λ σ cache u e. e; fits-none = λ σ cache u e. e; no_cell = λ d t. t }

away-idle : Idle Away
away-idle = record { none_left = λ σ cache u e. e; fits-none = λ σ cache u e. e; no_cell = λ d t. t }

-- A worker under W of a running board that goes from one condition without an update to another.
module _ (r : Run) (w : ℕ) (k k' : Condition) (inv : Inv r) (d : r.crashed ≡ false) (runs : not_running r.board ≡ false) (there : no_worker r.board.state w ≡ false) (at : condition_of r.board.state w ≡ k) (old : Idle k) (new : Idle k') where
  abbrev s : State
  s = r.board.state

  abbrev s' : State
  s' = conditioned s w k'

  on : s.phase ≡ Running
  on = is-running s.phase (not-off (is_running s.phase) runs)

  -- The worker has its new condition, and every other its old one.
  put : condition_of s' w ≡ k'
  put =
      let v = (running-run r inv d on).running in
      condition-at s w k' (own-seat s v.own (leb-false s.workers w there))

  kept : (i : ℕ) → (w ≡ i → ⊥) → condition_of s' i ≡ condition_of s i
  kept = condition-other s w k'

  -- The unfinished updates are the same.
  alike : (0 < progress s → AllQuiescent s → AllQuiescent s') → Alike s s.holders s'.worker
  alike waits =
      record {
        eight = length-set s.worker w (record { condition = k' });
        work =
            at_each
            (λ (i : ℕ). i < s.workers → (σ : Shape) (cache : List ℕ) (u : Unfinished) → WorkerInv σ cache (condition_of s i) u → WorkerInv σ cache (condition_of s' i) u) w
            (λ h σ cache u x. subst (λ (c : Condition). WorkerInv σ cache c u) (sym put) (new.fits-none σ cache u (old.none_left σ cache u (subst (λ (c : Condition). WorkerInv σ cache c u) at x))))
            (λ i o h σ cache u x. subst (λ (c : Condition). WorkerInv σ cache c u) (sym (kept i o)) x);
        touches = λ i n.
            at_each (λ (j : ℕ). j < s.workers → Touches (condition_of s' j) n → Touches (condition_of s j) n) w
            (λ h t. absurd (new.no_cell n (subst (λ (c : Condition). Touches c n) put t)))
            (λ j o h t. subst (λ (c : Condition). Touches c n) (kept j o) t) i;
        waits = waits;
        held = λ h. h;
      }

  -- The invariant is kept where no checkpoint that has taken a step is held up.
  moved : (crashed : Bool) → (0 < progress s → AllQuiescent s → AllQuiescent s') → Preserved false r (record { board = stated s' r.board; machine = r.machine; crashed = crashed; erased = r.erased })
  moved crashed waits = carried-workers r s.holders s'.worker crashed inv d on (alike waits)

-- A taken going away: one more is away, so as many hold a checkpoint up as before, or fewer.
pub carried-go-away : (r : Run) (w : ℕ) → Inv r → r.crashed ≡ false → Taken (GoAway w) r.board → Preserved false r (after_taken (GoAway w) r)
unfolding stands_at causes effect feed
carried-go-away r w inv d t =
    let s = r.board.state in
    let pass = passed (GoAway w) r.board t in
    let free : condition_of s w ≡ Free = is_free_lem (condition_of s w) (not-off (is_free (condition_of s w)) (pass 8)) in
    moved r w Free Away inv d (pass 2) (pass 6) free free-idle away-idle _
    (λ h all.
    at_each (λ (i : ℕ). i < s.workers → quiescent (condition_of (conditioned s w Away) i) ≡ true) w
    (λ u. ap quiescent (put r w Free Away inv d (pass 2) (pass 6) free free-idle away-idle))
    (λ i o u. ap quiescent (condition-other s w Away i o) ∙ all i u))

-- A taken coming back: by cause 13 no step of a requested checkpoint was taken.
pub carried-come-back : (r : Run) (w : ℕ) → Inv r → r.crashed ≡ false → Taken (ComeBack w) r.board → Preserved false r (after_taken (ComeBack w) r)
unfolding stands_at causes effect feed
carried-come-back r w inv d t =
    let s = r.board.state in
    let pass = passed (ComeBack w) r.board t in
    let untaken : progress s ≡ 0 = split s.requested
    (λ q. chosen s.requested s.place 0 q ∙ unbegun s.requested s.place (pass 13) q)
    (λ q. passed_over s.requested s.place 0 q) in
    moved r w Away Free inv d (pass 2) (pass 6) (is-away (condition_of s w) (not-off (is_away (condition_of s w)) (pass 8))) away-idle free-idle _
    (λ h all. absurd (omega (arith, untaken)))

-- ---- when they are taken

-- A running board lets a worker go and come exactly as 02 says.
pub goes-and-comes : (r : Run) → Inv r → r.crashed ≡ false → is_running r.board.state.phase ≡ true → (w : ℕ) →
    (Taken (GoAway w) r.board ↔ ((w < r.board.state.workers) × (condition_of r.board.state w ≡ Free) × HoldsNone r.board.state w))
    × (Taken (ComeBack w) r.board ↔ ((w < r.board.state.workers) × (condition_of r.board.state w ≡ Away) × (r.board.state.requested ≡ true → r.board.state.place ≡ 0)))
unfolding Clear stands_at causes
goes-and-comes r inv d e w =
    let b = r.board in
    let s = b.state in
    let k = condition_of s w in
    let y = running-passes r inv d (is-running s.phase e) in (
      (
        λ t. (leb-false s.workers w (passed (GoAway w) b t 6), is_free_lem k (not-off (is_free k) (passed (GoAway w) b t 8)), any_none s.holders w (passed (GoAway w) b t 16)),
        λ h. take (GoAway w) b (y.phase, (y.state, (y.rows, (lt-leb s.workers w h.0, (not_on_lem (is_free k) (ap is_free h.1), (none_any s.holders w h.2, tt)))))),
      ),
      (
        λ t. (leb-false s.workers w (passed (ComeBack w) b t 6), is-away k (not-off (is_away k) (passed (ComeBack w) b t 8)), unbegun s.requested s.place (passed (ComeBack w) b t 13)),
        λ h. take (ComeBack w) b (y.phase, (y.state, (y.rows, (lt-leb s.workers w h.0, (not_on_lem (is_away k) (ap is_away h.1), (begun-off s.requested s.place h.2, tt)))))),
      ),
    )
