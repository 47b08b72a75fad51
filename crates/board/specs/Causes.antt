-- Document 01, "Why a call is turned down", and document 02, tickets 2, 4, 5 and 6: the cause table, one test a line, and for each call its lines in the order tested.
use Rattle.std.specs.Prelude.{ℕ, ◌+◌, ◌-◌, ◌/◌, ◌%◌, List, [], ◌∷◌, Bool, false, cond, not, ◌&&◌, ◌||◌, leb, ltb, eqb, length}
use Rattle.board.specs.declared.State.{State}
use Rattle.board.specs.declared.Phase.{Phase}
use Rattle.board.specs.declared.Phase.TheVariants.{Off, Formatting, Recovering, Running}
use Rattle.board.specs.declared.Call.{Call}
use Rattle.board.specs.declared.Call.TheVariants.{FormatStart, RecoveryStart, Step, Update, RestartPoint, Advance, Request, WriteBack, Read, GoAway, ComeBack, Count, TakeLock, GiveBackLock}
use Rattle.line.specs.declared.Field.{Field}
use Rattle.predicate.specs.Passing.{any_under}
use Rattle.bitset.specs.Words.{strays}
use Rattle.locks.specs.Holders.{lock_count, unheld, holds, holds_any, held_from}
use Rattle.line.specs.Cell.{field_of}
use Rattle.board.specs.Board.{Board, cells, shaped, shape_of, shape_in, row_words, outside, epoch_of, lines_of, workers_of, rest_not_zero, last_epoch}
use Rattle.board.specs.Location.{stops}
use Rattle.board.specs.Checkpoint.{acts, stores_epoch}
use Rattle.board.specs.State.{condition_of, is_free, is_updating, is_away, quiescent, updates, any_worker, others_update, is_off, is_formatting, is_running, lock_of, updates_under, dirty_count}

-- A line of the table: the cause's number, and whether it stands.
pub record Cause : Type 0 where
  pub number : ℕ
  pub stands : Bool

-- ---- cause 2: "phase doesn't allow the call"

-- "The step call needs a phase other than off."
abbrev pub not_on : Board → Bool
not_on b = is_off b.state.phase

-- "Write-back needs recovering or running."
abbrev pub not_recovering_or_running : Board → Bool
not_recovering_or_running b = is_off b.state.phase || is_formatting b.state.phase

-- "All else needs running."
abbrev pub not_running : Board → Bool
not_running b = not (is_running b.state.phase)

-- ---- cause 3: "state record"

-- "place over L+1 in a format, a cell over 2L−1 in a recovery, over n+2 when running with a checkpoint requested".
abbrev pub place_past : Phase → State → Bool
place_past Off s = false
place_past Formatting s = ltb (s.lines + 1) s.place
place_past Recovering s = leb (stops (shape_of s)) s.place
place_past Running s = s.requested && ltb (dirty_count s + 2) s.place

-- "L or W outside the limits; place ..; cell 2L or more in an update of a worker under W"; 02: "A bit set for line 0 or past L"; "each lock's holder, a worker under W or none".
unfoldable pub bad_record : State → Bool
bad_record s =
    outside (shape_of s) s.workers
    || strays s.dirty s.lines
    || held_from s.holders s.workers
    || place_past s.phase s
    || any_worker s (updates (leb (cells (shape_of s))))

-- ---- cause 4: "rows"

-- "cache or memory not 8×(L+1) words".
abbrev pub bad_rows : ℕ → Board → Bool
bad_rows l b =
    not (eqb (length b.cache) (row_words l))
    || not (eqb (length b.memory) (row_words l))

-- "at recovery's start: memory not a multiple of 8 in 16 to 4,096 words": a length that recovery does not take.
abbrev pub bad_length : ℕ → Bool
bad_length n = not (eqb (n % 8) 0 && leb 16 n && leb n 4096)

-- "cache of another length".
abbrev pub bad_recovery_rows : Board → Bool
bad_recovery_rows b = bad_length (length b.memory) || not (eqb (length b.cache) (length b.memory))

-- ---- cause 5

-- "recovery's start: epoch 0, L not (words div 8) − 1, W outside the limits, or words 3 to 7 not all zero".
abbrev pub bad_header : List ℕ → Bool
bad_header row =
    eqb (epoch_of row) 0
    || not (eqb (lines_of row) (length row / 8 - 1))
    || outside (shape_in row) (workers_of row)
    || rest_not_zero row

-- ---- cause 14, "after 5"

-- 02: "any mark greater than its epoch": the mark of some cell of the row is greater than the given epoch.
abbrev pub later_mark : ℕ → List ℕ → Bool
later_mark epoch row = any_under (cells (shape_in row)) (λ c. ltb epoch (field_of row c Field.Mark))

-- ---- causes 6 and 7

-- "worker W or more".
abbrev pub no_worker : State → ℕ → Bool
no_worker s w = leb s.workers w

-- "update of a cell under W or 2L or more".
abbrev pub no_data_cell : State → ℕ → Bool
no_data_cell s c = ltb c s.workers || leb (cells (shape_of s)) c

-- "read of 2L or more".
abbrev pub no_cell : State → ℕ → Bool
no_cell s c = leb (cells (shape_of s)) c

-- "line over L".
abbrev pub no_line : State → ℕ → Bool
no_line s l = ltb s.lines l

-- ---- cause 15, "after 7"

-- 02, ticket 6: "a lock number of 16 or more".
abbrev pub no_lock : ℕ → Bool
no_lock k = leb lock_count k

-- ---- cause 8

-- "update or restart point by a worker not free"; 02: "going away when not free"; "A free worker, else 8, takes a free lock".
abbrev pub busy : State → ℕ → Bool
busy s w = not (is_free (condition_of s w))

-- "advance of one free or waiting", or away.
abbrev pub idle : State → ℕ → Bool
idle s w = not (is_updating (condition_of s w))

-- 02: "coming back when not away".
abbrev pub not_away : State → ℕ → Bool
not_away s w = not (is_away (condition_of s w))

-- ---- cause 13, "after 8"

-- 02: "coming back after a checkpoint's first step and before its release".
abbrev pub checkpoint_begun : State → Bool
checkpoint_begun s = s.requested && ltb 0 s.place

-- ---- cause 16, "after 8"

-- 02, ticket 6: a lock "taken and not free", one's own too.
abbrev pub lock_held : State → ℕ → Bool
lock_held s k = not (unheld s.holders k)

-- "needed or given back and not held": not by this worker.
abbrev pub not_holder : State → ℕ → ℕ → Bool
not_holder s w k = not (holds s.holders w k)

-- "or held at a restart point or on going away": any lock.
abbrev pub holder : State → ℕ → Bool
holder s w = holds_any s.holders w

-- ---- causes 10 and 11

-- "running step with none requested, or with a worker under W not waiting"; 02: "away counts as waiting".
abbrev pub not_ready : State → Bool
not_ready s = is_running s.phase && (not s.requested || any_worker s (λ condition. not (quiescent condition)))

-- "the cache's epoch 2^64 − 1, at a request".
abbrev pub epoch_spent : Board → Bool
epoch_spent b = eqb (epoch_of b.cache) last_epoch

-- The step at hand is one of a requested checkpoint.
abbrev pub checkpointing : State → Bool
checkpointing s = is_running s.phase && s.requested

-- "or at the epoch's store".
abbrev pub stores_spent_epoch : Board → Bool
stores_spent_epoch b = checkpointing b.state && stores_epoch (acts b) && epoch_spent b

-- ---- the table

-- A line of the table.
abbrev pub check : ℕ → Bool → Cause
check number stands = record { number = number; stands = stands }

-- What can turn down every call but the two starts: 2 where its phase bars it, 3 and 4; then come the call's own.
abbrev pub guarded : Bool → Board → List Cause → List Cause
guarded barred b own =
    check 2 barred
    ∷ check 3 (bad_record b.state)
    ∷ check 4 (bad_rows b.state.lines b)
    ∷ own

-- "Checked in rising order of number", and 02's 13 "after 8", 14 "after 5", 15 "after 7" and 16 "after 8": what can turn each call down.
unfoldable pub causes : Call → Board → List Cause
causes (FormatStart l w) b =
    check 1 (outside (shaped l) w)
    ∷ check 4 (bad_rows l b)
    ∷ []
causes RecoveryStart b =
    check 4 (bad_recovery_rows b)
    ∷ check 5 (bad_header b.memory)
    ∷ check 14 (later_mark (epoch_of b.memory) b.memory)
    ∷ []
causes Step b =
    guarded (not_on b) b
    (check 10 (not_ready b.state)
    ∷ check 11 (stores_spent_epoch b)
    ∷ [])
causes (Update w c v) b =
    guarded (not_running b) b
    (check 6 (no_worker b.state w)
    ∷ check 7 (no_data_cell b.state c)
    ∷ check 8 (busy b.state w)
    ∷ check 16 (not_holder b.state w (lock_of c))
    ∷ check 9 (others_update b.state w c)
    ∷ [])
causes (RestartPoint w v) b =
    guarded (not_running b) b
    (check 6 (no_worker b.state w)
    ∷ check 8 (busy b.state w)
    ∷ check 16 (holder b.state w)
    ∷ check 9 (others_update b.state w w)
    ∷ [])
causes (Advance w) b =
    guarded (not_running b) b
    (check 6 (no_worker b.state w)
    ∷ check 8 (idle b.state w)
    ∷ [])
causes Request b =
    guarded (not_running b) b
    (check 10 b.state.requested
    ∷ check 11 (epoch_spent b)
    ∷ [])
causes (WriteBack l) b =
    guarded (not_recovering_or_running b) b
    (check 7 (no_line b.state l)
    ∷ [])
causes (Read c) b =
    guarded (not_running b) b
    (check 7 (no_cell b.state c)
    ∷ [])
causes (GoAway w) b =
    guarded (not_running b) b
    (check 6 (no_worker b.state w)
    ∷ check 8 (busy b.state w)
    ∷ check 16 (holder b.state w)
    ∷ [])
causes (ComeBack w) b =
    guarded (not_running b) b
    (check 6 (no_worker b.state w)
    ∷ check 8 (not_away b.state w)
    ∷ check 13 (checkpoint_begun b.state)
    ∷ [])
causes Count b =
    guarded (not_running b) b []
causes (TakeLock w k) b =
    guarded (not_running b) b
    (check 6 (no_worker b.state w)
    ∷ check 15 (no_lock k)
    ∷ check 8 (busy b.state w)
    ∷ check 16 (lock_held b.state k)
    ∷ [])
causes (GiveBackLock w k) b =
    guarded (not_running b) b
    (check 6 (no_worker b.state w)
    ∷ check 15 (no_lock k)
    ∷ check 8 (updates_under b.state w k)
    ∷ check 16 (not_holder b.state w k)
    ∷ [])

-- The number of the first cause that stands, 0 where none does.
unfoldable pub first_standing : List Cause → ℕ
first_standing [] = 0
first_standing (c ∷ cs) = cond c.stands c.number (first_standing cs)

-- "A taken call returns 0."
unfoldable pub cause : Call → Board → ℕ
cause k b = first_standing (causes k b)
