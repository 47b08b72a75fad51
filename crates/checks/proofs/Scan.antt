-- A scan asks the workers under W: no worker from there on is what is sought.
use Prim.Native.Nat.{ℕ, ◌≤◌, ◌<◌}
use mathlib.Core.Path.{◌≡◌, refl, sym, ap}
use mathlib.Core.Bool.{Bool, true, false, not, ◌&&◌, ◌||◌, true≢false}
use lib.Dec.{leb, ltb, eqb}
use borrow.Author.Tests.{le-ltb, lt-ltb}
use Rattle.predicate.specs.Passing.{any_under}
use Rattle.board.specs.declared.State.{State}
use Rattle.board.specs.declared.Phase.TheVariants.{Running}
use Rattle.board.specs.declared.Condition.{Condition}
use Rattle.board.specs.declared.Condition.TheVariants.{Free, Waiting, Updating, Away}
use Rattle.board.specs.Board.{shape_of, cells}
use Rattle.board.specs.State.{any_worker, condition_of, quiescent, is_running, updates, others_update}
use Rattle.board.specs.Causes.{bad_record, not_ready}
use Rattle.predicate.proofs.Bools.{and-off, and-not, or_right}
use Rattle.predicate.proofs.Passing.{none-under, under_none}
use Rattle.checks.specs.Head.{bad_head}

-- A test and one that fails.
or_off : (a b : Bool) → b ≡ false → a || b ≡ a
or_off Bool.true b e = refl
or_off Bool.false b e = e

-- The tests that a scan makes of the eight workers: worker `i` is under W and passes the test of its number and its condition.
abbrev pub told_at : State → (ℕ → Condition → Bool) → ℕ → Bool
told_at s told i = ltb i s.workers && told i (condition_of s i)

-- A worker under W is told by the test alone.
pub told-under : (s : State) (told : ℕ → Condition → Bool) (i : ℕ) → i < s.workers → told_at s told i ≡ told i (condition_of s i)
told-under s told i h = rw (lt-ltb i s.workers h)

-- A worker from W on is none that is sought.
pub told-past : (s : State) (told : ℕ → Condition → Bool) (i : ℕ) → s.workers ≤ i → any_under i (told_at s told) || told_at s told i ≡ any_under i (told_at s told)
told-past s told i h = or_off _ _ (and-off (ltb i s.workers) (told i (condition_of s i)) (le-ltb i s.workers h))

-- Three tests, in two ways of bracketing.
and-regroup : (a b c : Bool) → a && (b && c) ≡ (a && b) && c
and-regroup Bool.true b c = refl
and-regroup Bool.false b c = refl

-- The scan for another worker's update of a cell is the definition's.
pub others-told : (s : State) (w c : ℕ) → any_under 8 (told_at s (λ i k. not (eqb i w) && updates (eqb c) k)) ≡ others_update s w c
others-told s w c =
    ap (any_under 8) (λ k i. and-regroup (ltb i s.workers) (not (eqb i w)) (updates (eqb c) (condition_of s i)) k)

-- ---- a step that is ready

-- A worker that is not there, waits or is away has no update.
waits-idle : (under : Bool) (condition : Condition) (test : ℕ → Bool) → under && not (quiescent condition) ≡ false → under && updates test condition ≡ false
waits-idle Bool.false condition test e = refl
waits-idle Bool.true Free test e = refl
waits-idle Bool.true Waiting test e = refl
waits-idle Bool.true (Updating next c v) test e = absurd (true≢false e)
waits-idle Bool.true Away test e = refl

-- The record of a running step that is ready is told without its workers: all workers under W wait or are away, so that none has an update.
pub ready-record : (s : State) → s.phase ≡ Running → not_ready s ≡ false → bad_head s ≡ bad_record s
unfolding bad_record
ready-record s p ready =
    let waits = any_worker s (λ condition. not (quiescent condition)) in
    let on : is_running s.phase ≡ true = rw p in
    let all : waits ≡ false = or_right (not s.requested) waits (and-not (is_running s.phase) (not s.requested || waits) ready on) in
    sym
    (or_off (bad_head s) _
    (under_none 8 _ (λ i h. waits-idle (ltb i s.workers) (condition_of s i) (leb (cells (shape_of s))) (none-under 8 _ all i h))))
