-- What becomes of the workers at a checkpoint's release, at the last store of an update, and where one goes away or comes back.
use Prim.Native.Nat.{ℕ, ◌+◌, ◌<◌}
use mathlib.Core.Path.{◌≡◌, refl, sym, ap, subst, ◌∙◌}
use mathlib.Core.Logic.{◌↔◌}
use mathlib.Core.List.{List}
use mathlib.Core.Bool.{true, ◌&&◌, false≢true}
use native.Mathlib.Omega.{arith}
use lib.Dec.{ltb}
use lib.ListN.{length, length-set}
use borrow.Author.Tests.{ltb-true, leb-false, lt-ltb}
use Rattle.board.specs.declared.State.{State}
use Rattle.board.specs.declared.Condition.{Condition}
use Rattle.board.specs.declared.Condition.TheVariants.{Free, Waiting, Updating, Away}
use Rattle.board.specs.declared.Store.{Store}
use Rattle.board.specs.declared.Phase.TheVariants.{Running}
use Rattle.board.specs.declared.Call.TheVariants.{Step, Advance, GoAway, ComeBack}
use Rattle.board.specs.Board.{Board}
use Rattle.board.specs.State.{released, conditioned, condition_of, is_away, is_waiting, dirty_count}
use Rattle.board.specs.Causes.{causes}
use Rattle.board.specs.Effects.{perform_act, perform_first, stated, after_last, advance, advance_of, effect}
use Rattle.board.specs.Checkpoint.{Act, acts}
use Rattle.board.specs.Next.{next, Taken}
use Rattle.board.specs.Steps.{Released, Releases, MustWait, LastStore, OnlyCondition, OnlyWorker, GoesAway, ComesBack}
use Rattle.predicate.proofs.Bools.{split, chosen, passed_over, and_left, and_right, and_both, not-off, clash}
use Rattle.board.proofs.Laws.Taken.{stands_at, passed, taken_next, eight-within}
use Rattle.board.proofs.Laws.Workers.{condition-at, condition-other, is-away, busy-within, released-away}
use Rattle.board.proofs.Checkpoint.Acts.{Remains, line_next, epoch_next, header_next, release_next, acts-length, effect-acts, Stepping, step-ready}

-- ---- release

-- The step at place n+2 releases.
step-releases : (b : Board) → b.state.phase ≡ Running → Taken Step b → b.state.place ≡ dirty_count b.state + 2 →
    next Step b ≡ stated (released b.state) b
unfolding perform_act perform_first
step-releases b e t p = taken_next Step b t ∙ go now.left refl
  where
    now : Stepping b
    now = step-ready b e t

    one : length (acts b) ≡ 1
    one = acts-length b ∙ omega (arith, chosen b.state.requested b.state.place 0 now.request)

    go : {xs : List Act} → Remains b xs → acts b ≡ xs → effect Step b ≡ stated (released b.state) b
    go (line_next later low three) q = absurd (omega (arith, one, ap length q))
    go epoch_next q = absurd (omega (arith, one, ap length q))
    go header_next q = absurd (omega (arith, one, ap length q))
    go release_next q = effect-acts b e q

-- A release frees the eight workers but those that are away.
pub releases : Releases
releases b e t p =
    subst (Released b) (sym (step-releases b e t p))
    (record {
      eight = refl;
      workers_after = released-away b.state;
      clean = refl;
      holders = refl;
      request = refl;
      place = refl;
      undo = refl;
      phase = refl;
      lines = refl;
      workers = refl;
      memory = refl;
      cache = refl;
    })

-- ---- the last store

-- After the last store the worker's condition is as 01 says.
last-condition : (w c v : ℕ) (b : Board) → condition_of b.state w ≡ Updating Store.Record c v → Taken (Advance w) b →
    condition_of (next (Advance w) b).state w ≡ after_last b.state c
unfolding effect advance_of advance
last-condition w c v b e t =
    ap (λ (x : Board). condition_of x.state w) (taken_next (Advance w) b t ∙ ap (λ (k : Condition). advance_of k w b.state b) e)
    ∙ condition-at b.state w (after_last b.state c) (busy-within b.state w refl e)

module _ (b : Board) (c : ℕ) where
  -- Where the test of the last store holds, the worker must wait.
  pub must : ltb c b.state.workers && b.state.requested ≡ true → MustWait c b
  must t = (ltb-true c b.state.workers (and_left (ltb c b.state.workers) b.state.requested t), and_right (ltb c b.state.workers) b.state.requested t)

  -- Where the worker must wait, the test holds.
  pub must-test : MustWait c b → ltb c b.state.workers && b.state.requested ≡ true
  must-test m = and_both (ltb c b.state.workers) b.state.requested (lt-ltb c b.state.workers m.0) m.1

  -- The condition after the last store, by that test.
  ended : (k : Condition) → k ≡ after_last b.state c → ((k ≡ Waiting) ↔ MustWait c b) × ((MustWait c b → ⊥) → k ≡ Free)
  ended k e =
      let test = ltb c b.state.workers && b.state.requested in
      split test
      (λ t. let on : k ≡ Waiting = e ∙ chosen test Waiting Free t in ((λ q. must t, λ m. on), λ o. absurd (o (must t))))
      (λ t. let off : k ≡ Free = e ∙ passed_over test Waiting Free t in ((λ q. absurd (false≢true (ap is_waiting (sym off ∙ q))), λ m. absurd (clash (must-test m) t)), λ o. off))

-- The worker waits exactly at a restart point's last store under a request.
pub last-store : LastStore
last-store w c v b e t =
    let k = ended b c (condition_of (next (Advance w) b).state w) (last-condition w c v b e t) in
    record { waits = k.0; free = k.1 }

-- ---- going away and coming back

-- A worker put in another condition, and nothing else of the record but the dirty lines.
pub only-condition : (w : ℕ) (condition : Condition) (s : State) → w < length s.worker → OnlyCondition w condition s (conditioned s w condition)
only-condition w condition s h =
    record {
      worker = condition-at s w condition h;
      others = λ i o. condition-other s w condition i (λ e. o (sym e));
      eight = length-set s.worker w (record { condition = condition });
      phase = refl;
      lines = refl;
      workers = refl;
      holders = refl;
      place = refl;
      undo = refl;
      request = refl;
    }

-- A worker put in another condition, and nothing else.
pub only-worker : (w : ℕ) (condition : Condition) (b : Board) → w < length b.state.worker →
    OnlyWorker w condition b (stated (conditioned b.state w condition) b)
only-worker w condition b h = record { conditions = only-condition w condition b.state h; dirty = refl; memory = refl; cache = refl }

-- A worker that goes away is away, and nothing else has changed.
pub goes-away : GoesAway
unfolding effect stands_at causes
goes-away w b eight t =
    let pass = passed (GoAway w) b t in
    let under : w < b.state.workers = leb-false b.state.workers w (pass 6) in
    let most = eight-within b.state (pass 3) in
    subst (OnlyWorker w Away b) (sym (taken_next (GoAway w) b t)) (only-worker w Away b (omega arith))

-- A worker that comes back is free, and nothing else has changed.
pub comes_back_lem : ComesBack
unfolding effect stands_at causes
comes_back_lem w b t =
    let away : is_away (condition_of b.state w) ≡ true = not-off (is_away (condition_of b.state w)) (passed (ComeBack w) b t 8) in
    subst (OnlyWorker w Free b) (sym (taken_next (ComeBack w) b t)) (only-worker w Free b (busy-within b.state w refl (is-away (condition_of b.state w) away)))
