-- Document 01, "Why a call is turned down", and document 02, tickets 2, 4, 5 and 6: the cause table tried at every part of each of its sentences. For every
-- call and every number that can turn it
-- down there is a board where it does, with every later cause standing too where that can be; and boards where the call is just taken.
pub mod Boards
pub mod Starts
pub mod Calls
pub mod Away
pub mod Lines
pub mod Locks
use Rattle.std.specs.Prelude.{ℕ, ◌≡◌, Bool, true, false, ◌&&◌, ◌||◌, eqb}
use mathlib.Core.List.{List, [], ◌∷◌, flatten}
use Rattle.board.specs.declared.Call.{Call}
use Rattle.board.specs.Board.{Board}
use Rattle.board.specs.Causes.{Cause, causes}
use Rattle.board.specs.Next.{profile}
use Rattle.board.specs.Bench.{Seen, answers, memory_line, cache_line, dirty_words, holders, reads, valued, counted, ends_in, Case, Each}
use Rattle.board.specs.Refusals.Starts.{format_limits, format_rows, format_taken, recovery_rows, recovery_header, recovery_taken, recovery_before_marks, recovery_marks, recovery_marks_taken, step_phase, step_record, step_record_in_format, step_record_in_recovery, step_record_taken, step_place_of_phase, step_rows, step_ready, step_ready_taken, step_epoch, step_epoch_taken}
use Rattle.board.specs.Refusals.Calls.{update_first, update_worker, update_cell, update_busy, update_lock, update_shared, update_taken, restart_first, restart_worker, restart_busy, restart_lock, restart_shared, restart_taken, advance_first, advance_worker, advance_idle, advance_taken, request_first, request_last, request_taken, back_phase, back_record, back_rows, back_line, back_taken, read_first, read_cell, read_value, read_taken}
use Rattle.board.specs.Refusals.Away.{go_first, go_worker, go_busy, go_lock, go_taken, come_first, come_worker, come_not_away, come_begun, come_taken, away_busy, away_steps, away_beside, away_left}
use Rattle.board.specs.Refusals.Locks.{take_first, take_worker, take_number, take_busy, take_held, take_taken, give_first, give_worker, give_number, give_updating, give_not_held, give_taken, bad_holders, own_holders, holders_left}
use Rattle.board.specs.Refusals.Lines.{count_first, count_taken, count_value, stray_lines, own_lines, places_by_lines, words_written}

-- The groups of rows, by call in the order of 01, and then 02's.
abbrev pub groups : List (List Case)
groups =
    format_limits ∷ format_rows ∷ format_taken
    ∷ recovery_rows ∷ recovery_header ∷ recovery_taken ∷ recovery_before_marks ∷ recovery_marks ∷ recovery_marks_taken
    ∷ step_phase ∷ step_record ∷ step_record_in_format ∷ step_record_in_recovery ∷ step_record_taken ∷ step_place_of_phase ∷ step_rows ∷ step_ready ∷ step_ready_taken ∷ step_epoch ∷ step_epoch_taken
    ∷ update_first ∷ update_worker ∷ update_cell ∷ update_busy ∷ update_lock ∷ update_shared ∷ update_taken
    ∷ restart_first ∷ restart_worker ∷ restart_busy ∷ restart_lock ∷ restart_shared ∷ restart_taken
    ∷ advance_first ∷ advance_worker ∷ advance_idle ∷ advance_taken
    ∷ request_first ∷ request_last ∷ request_taken
    ∷ back_phase ∷ back_record ∷ back_rows ∷ back_line ∷ back_taken
    ∷ read_first ∷ read_cell ∷ read_value ∷ read_taken
    ∷ go_first ∷ go_worker ∷ go_busy ∷ go_lock ∷ go_taken
    ∷ come_first ∷ come_worker ∷ come_not_away ∷ come_begun ∷ come_taken
    ∷ away_busy ∷ away_steps ∷ away_beside ∷ away_left
    ∷ count_first ∷ count_taken ∷ count_value
    ∷ stray_lines ∷ own_lines ∷ places_by_lines ∷ words_written
    ∷ take_first ∷ take_worker ∷ take_number ∷ take_busy ∷ take_held ∷ take_taken
    ∷ give_first ∷ give_worker ∷ give_number ∷ give_updating ∷ give_not_held ∷ give_taken
    ∷ bad_holders ∷ own_holders ∷ holders_left
    ∷ []

-- The table.
unfoldable pub refusals : List Case
refusals = flatten groups

-- ---- what the table asks

-- It is seen that a call at place `index` of the list of calls answers `n`.
abbrev pub asks : ℕ → ℕ → Seen → Bool
asks index n (answers k m) = eqb (profile k).index index && eqb m n
asks index n (memory_line l words) = false
asks index n (cache_line l words) = false
asks index n (dirty_words words) = false
asks index n (holders h) = false
asks index n (reads c v) = false
asks index n (valued c v) = false
asks index n (counted m) = false
asks index n (ends_in k m) = false

-- One of the things seen asks it.
unfoldable pub any_asks : ℕ → ℕ → List Seen → Bool
any_asks index n [] = false
any_asks index n (x ∷ xs) = asks index n x || any_asks index n xs

-- A row of the table asks it.
unfoldable pub asked : ℕ → ℕ → List Case → Bool
asked index n [] = false
asked index n (c ∷ cs) = any_asks index n c.seen || asked index n cs

-- For each line of a call's table there is a row in which a call of that name is turned down by its number.
unfoldable pub all_asked : ℕ → List Cause → Bool
all_asked index [] = true
all_asked index (c ∷ cs) = asked index c.number refusals && all_asked index cs

-- No call is left out: each is just taken in some row, and turned down in some row by each number of its table.
abbrev pub EachAsked : Type 0
EachAsked = (k : Call) (b : Board) → asked (profile k).index 0 refusals && all_asked (profile k).index (causes k b) ≡ true

-- Every row of the table holds.
abbrev pub RefusalsHold : Type 0
RefusalsHold = Each refusals
