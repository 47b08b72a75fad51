-- Document 01, "Lines and cells" and "Steps", and document 02, tickets 2, 5 and 6: the state record, its workers, and every way in which a call makes a new one.
use Rattle.std.specs.Prelude.{ℕ, ◌%◌, List, [], ◌∷◌, Bool, true, false, not, ◌&&◌, leb, ltb, eqb, get_or, set, replicate}
unfoldable pub use Rattle.predicate.specs.Passing.{any_under}
use Rattle.bitset.specs.Words.{empty, inserted, size}
use Rattle.locks.specs.Holders.{lock_count, all_unheld}
use Rattle.board.specs.declared.State.{State}
use Rattle.board.specs.declared.Worker.{Worker}
use Rattle.board.specs.declared.Condition.{Condition}
use Rattle.board.specs.declared.Condition.TheVariants.{Free, Waiting, Updating, Away}
use Rattle.board.specs.declared.UndoStep.{UndoStep}
use Rattle.board.specs.declared.UndoStep.TheVariants.{Restore}
use Rattle.board.specs.declared.Phase.{Phase}
use Rattle.board.specs.declared.Phase.TheVariants.{Off, Formatting, Recovering, Running}
use Rattle.board.specs.Board.{Shape}

-- ---- workers

-- A free worker.
abbrev pub free_worker : Worker
free_worker = record { condition = Free }

-- "all eight workers free".
abbrev pub all_free : List Worker
all_free = replicate 8 free_worker

-- The condition of worker `w`.
abbrev pub condition_of : State → ℕ → Condition
condition_of s w = (get_or s.worker w free_worker).condition

-- "A worker is free".
abbrev pub is_free : Condition → Bool
is_free Free = true
is_free Waiting = false
is_free (Updating next c v) = false
is_free Away = false

-- "waiting".
abbrev pub is_waiting : Condition → Bool
is_waiting Free = false
is_waiting Waiting = true
is_waiting (Updating next c v) = false
is_waiting Away = false

-- "or in the middle of an update".
abbrev pub is_updating : Condition → Bool
is_updating Free = false
is_updating Waiting = false
is_updating (Updating next c v) = true
is_updating Away = false

-- 02: "A free worker may go away".
abbrev pub is_away : Condition → Bool
is_away Free = false
is_away Waiting = false
is_away (Updating next c v) = false
is_away Away = true

-- 02: "away counts as waiting": the worker holds no checkpoint up.
abbrev pub quiescent : Condition → Bool
quiescent Free = false
quiescent Waiting = true
quiescent (Updating next c v) = false
quiescent Away = true

-- The worker has an unfinished update whose cell passes the test.
abbrev pub updates : (ℕ → Bool) → Condition → Bool
updates test Free = false
updates test Waiting = false
updates test (Updating next c v) = test c
updates test Away = false

-- Some worker under W has a condition that passes the test.
abbrev pub any_worker : State → (Condition → Bool) → Bool
any_worker s test = any_under 8 (λ i. ltb i s.workers && test (condition_of s i))

-- Some worker under W other than `w` has an unfinished update of cell `c`.
abbrev pub others_update : State → ℕ → ℕ → Bool
others_update s w c = any_under 8 (λ i. ltb i s.workers && not (eqb i w) && updates (eqb c) (condition_of s i))

-- ---- locks

-- 02, ticket 6: "data cell c lies under lock c mod 16".
abbrev pub lock_of : ℕ → ℕ
lock_of c = c % lock_count

-- Worker `w` has an unfinished update of a data cell under lock `k`; a restart cell lies under none.
abbrev pub updates_under : State → ℕ → ℕ → Bool
updates_under s w k = updates (λ c. leb s.workers c && eqb (lock_of c) k) (condition_of s w)

-- ---- phases

-- The phase is off.
abbrev pub is_off : Phase → Bool
is_off Off = true
is_off Formatting = false
is_off Recovering = false
is_off Running = false

-- The phase is formatting.
abbrev pub is_formatting : Phase → Bool
is_formatting Off = false
is_formatting Formatting = true
is_formatting Recovering = false
is_formatting Running = false

-- The phase is running.
abbrev pub is_running : Phase → Bool
is_running Off = false
is_running Formatting = false
is_running Recovering = false
is_running Running = true

-- The phase is recovering.
abbrev pub is_recovering : Phase → Bool
is_recovering Off = false
is_recovering Formatting = false
is_recovering Recovering = true
is_recovering Running = false

-- ---- the records that steps leave

-- "Each of the two starts sets every field": its phase, L and W, no line dirty, the place at its beginning, no request, all free; 02, ticket 6: "Both starts free all locks."
abbrev pub started : Phase → Shape → ℕ → State
started phase σ w =
    record { phase = phase; lines = σ.lines; workers = w; place = 0; undo = Restore; requested = false; holders = all_unheld; dirty = empty; worker = all_free }

-- The record with the place, and a recovery's step there, put anew.
abbrev pub placed : State → ℕ → UndoStep → State
placed s place undo =
    record { phase = s.phase; lines = s.lines; workers = s.workers; place = place; undo = undo; requested = s.requested; holders = s.holders; dirty = s.dirty; worker = s.worker }

-- "Then running, all free": the end of a format or recovery sets the place to 0; 02: a format's clears the lines' bits; neither names the locks.
abbrev pub opened : State → List ℕ → State
opened s dirty =
    record { phase = Running; lines = s.lines; workers = s.workers; place = 0; undo = Restore; requested = s.requested; holders = s.holders; dirty = dirty; worker = all_free }

-- "A request sets the place to 0".
abbrev pub requesting : State → State
requesting s =
    record { phase = s.phase; lines = s.lines; workers = s.workers; place = 0; undo = Restore; requested = true; holders = s.holders; dirty = s.dirty; worker = s.worker }

-- "release, with all eight workers free"; 02: "Release leaves it away": the condition that it leaves a worker in.
abbrev pub after_release : Condition → Condition
after_release Free = Free
after_release Waiting = Free
after_release (Updating next c v) = Free
after_release Away = Away

-- Worker `w` after the release.
abbrev pub released_worker : State → ℕ → Worker
released_worker s w = record { condition = after_release (condition_of s w) }

-- The eight workers after the release.
abbrev pub released_workers : State → List Worker
released_workers s =
    released_worker s 0 ∷ released_worker s 1 ∷ released_worker s 2 ∷ released_worker s 3
    ∷ released_worker s 4 ∷ released_worker s 5 ∷ released_worker s 6 ∷ released_worker s 7 ∷ []

-- "release, with all eight workers free" but those that are away, "request gone", the place 0; 02: the bits "stay set until release"; the locks stay.
abbrev pub released : State → State
released s =
    record { phase = s.phase; lines = s.lines; workers = s.workers; place = 0; undo = Restore; requested = false; holders = s.holders; dirty = empty; worker = released_workers s }

-- The record with worker `w` in another condition.
abbrev pub conditioned : State → ℕ → Condition → State
conditioned s w condition =
    record { phase = s.phase; lines = s.lines; workers = s.workers; place = s.place; undo = s.undo; requested = s.requested; holders = s.holders; dirty = s.dirty; worker = set s.worker w (record { condition = condition }) }

-- 02, ticket 5: "a bit for each line": the record with the bit of line `l` set.
abbrev pub dirtied : State → ℕ → State
dirtied s l =
    record { phase = s.phase; lines = s.lines; workers = s.workers; place = s.place; undo = s.undo; requested = s.requested; holders = s.holders; dirty = inserted s.dirty l; worker = s.worker }

-- 02, ticket 6: the record with other holders of its locks.
abbrev pub locked : State → ℕ → State
locked s holders =
    record { phase = s.phase; lines = s.lines; workers = s.workers; place = s.place; undo = s.undo; requested = s.requested; holders = holders; dirty = s.dirty; worker = s.worker }

-- 02, ticket 5: "n is their count": how many lines the next checkpoint writes.
abbrev pub dirty_count : State → ℕ
dirty_count s = size s.dirty
