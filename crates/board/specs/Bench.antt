-- Document 01, "Bench cases": K1 to K11 as a table of cases, and the one statement that every case holds.
use Rattle.std.specs.Prelude.{ℕ, zero, suc, ◌+◌, ◌-◌, ◌^◌, ◌≡◌, List, [], ◌∷◌, ◌++◌, map, Bool, true, false, not, ◌&&◌, eqb, replicate}
use Rattle.line.specs.Line.{line_of}
use Rattle.board.specs.declared.State.{State}
use Rattle.board.specs.declared.Phase.TheVariants.{Off, Running}
use Rattle.board.specs.declared.Call.{Call}
use Rattle.board.specs.declared.Call.TheVariants.{FormatStart, RecoveryStart, Step, Update, RestartPoint, Advance, Request, WriteBack, Read, TakeLock, GiveBackLock}
use Rattle.board.specs.Board.{Board, shaped, row_words}
use Rattle.board.specs.State.{started, requesting, is_running}
use Rattle.board.specs.Causes.{cause}
use Rattle.board.specs.Next.{taken, next, value_read, value_counted}
use Rattle.board.specs.Sequence.{cut_board}

-- ---- what a case is

-- What is done in a case: a call, or a cut with what it leaves of record and cache.
pub data Event : Type 0 where
  call : Call → Event
  cut : State → List ℕ → Event

-- What is then seen.
pub data Seen : Type 0 where
  answers : Call → ℕ → Seen
  memory_line : ℕ → List ℕ → Seen
  cache_line : ℕ → List ℕ → Seen
  dirty_words : List ℕ → Seen
  holders : ℕ → Seen
  reads : ℕ → ℕ → Seen
  valued : ℕ → ℕ → Seen
  counted : ℕ → Seen
  ends_in : Call → ℕ → Seen

-- A bench case: a board, calls that are all taken with cuts among them, and what is then seen.
pub record Case : Type 0 where
  pub name : ℕ
  pub board : Board
  pub events : List Event
  pub seen : List Seen

-- ---- when a case holds

-- Two rows are the same.
unfoldable pub same : List ℕ → List ℕ → Bool
same [] [] = true
same [] (y ∷ ys) = false
same (x ∷ xs) [] = false
same (x ∷ xs) (y ∷ ys) = eqb x y && same xs ys

-- All of the calls are taken, whatever cuts there are among them.
unfoldable pub all_taken_in : List Event → Board → Bool
all_taken_in [] b = true
all_taken_in (call k ∷ es) b = taken k b && all_taken_in es (next k b)
all_taken_in (cut s cache ∷ es) b = all_taken_in es (cut_board s cache b)

-- The board after the calls and cuts.
unfoldable pub after_events : List Event → Board → Board
after_events [] b = b
after_events (call k ∷ es) b = after_events es (next k b)
after_events (cut s cache ∷ es) b = after_events es (cut_board s cache b)

-- The board after the calls.
unfoldable pub after_calls : List Call → Board → Board
after_calls [] b = b
after_calls (k ∷ ks) b = after_calls ks (next k b)

-- The board runs after `n` taken steps and not before.
unfoldable pub runs_in : ℕ → Board → Bool
runs_in zero b = is_running b.state.phase
runs_in (suc n) b = not (is_running b.state.phase) && taken Step b && runs_in n (next Step b)

-- The thing is seen on the board.
unfoldable pub sees : Seen → Board → Bool
sees (answers k n) b = eqb (cause k b) n
sees (memory_line l words) b = same (line_of b.memory l) words
sees (cache_line l words) b = same (line_of b.cache l) words
sees (dirty_words words) b = same b.state.dirty words
sees (holders n) b = eqb b.state.holders n
sees (reads c v) b = taken (Read c) b && eqb (value_read c b) v
sees (valued c v) b = eqb (value_read c b) v
sees (counted n) b = eqb (value_counted b) n
sees (ends_in k n) b = taken k b && runs_in n (next k b)

-- All of the things are seen.
unfoldable pub all_seen : List Seen → Board → Bool
all_seen [] b = true
all_seen (x ∷ xs) b = sees x b && all_seen xs b

-- The case holds of the definitions.
unfoldable pub holds : Case → Bool
holds k = all_taken_in k.events k.board && all_seen k.seen (after_events k.events k.board)

-- ---- the boards

-- A board that is off, with rows of the given length, all zeros.
abbrev pub blank : ℕ → Board
blank words = record { state = started Off (shaped 0) 0; memory = replicate words 0; cache = replicate words 0 }

-- A board with rows for L lines.
abbrev pub blank_for : ℕ → Board
blank_for l = blank (row_words l)

-- A running board (1, 1) with the given epoch in both rows.
abbrev pub running_at : ℕ → Board
running_at epoch =
    record { state = started Running (shaped 1) 1; memory = epoch ∷ 1 ∷ 1 ∷ replicate 13 0; cache = epoch ∷ 1 ∷ 1 ∷ replicate 13 0 }

-- ---- the calls

-- A format to its end.
abbrev pub format : ℕ → ℕ → List Call
format l w = FormatStart l w ∷ replicate (l + 2) Step

-- "From a fresh format (1, 1) .. update worker 0, cell 1, value 7, two advances"; 02, ticket 6: "take the lock before each update".
abbrev pub calls4 : List Call
calls4 = format 1 1 ++ (TakeLock 0 1 ∷ Update 0 1 7 ∷ Advance 0 ∷ Advance 0 ∷ [])

-- "third advance"; 02: "and give it back after".
abbrev pub calls5 : List Call
calls5 = calls4 ++ (Advance 0 ∷ GiveBackLock 0 1 ∷ [])

-- "then write-back of line 1".
abbrev pub calls6 : List Call
calls6 = calls5 ++ (WriteBack 1 ∷ [])

-- "value 9 to cell 1: one advance".
abbrev pub calls7 : List Call
calls7 = calls5 ++ (TakeLock 0 1 ∷ Update 0 1 9 ∷ Advance 0 ∷ GiveBackLock 0 1 ∷ [])

-- "request, restart point 3, three advances", and the first `n` of the checkpoint's steps.
abbrev pub calls8 : ℕ → List Call
calls8 n = calls5 ++ (Request ∷ RestartPoint 0 3 ∷ Advance 0 ∷ Advance 0 ∷ Advance 0 ∷ replicate n Step)

-- A recovery of `n` steps.
abbrev pub recovery : ℕ → List Call
recovery n = RecoveryStart ∷ replicate n Step

-- A cut of a board (1, 1) that leaves words of no meaning in the cache, and a running record with a request.
abbrev pub cut_with_garbage : Event
cut_with_garbage = cut (requesting (started Running (shaped 9) 200)) (replicate 16 77)

-- ---- the table

-- A row of the table, with cuts.
abbrev pub from_events : ℕ → Board → List Event → List Seen → Case
from_events name board events seen = record { name = name; board = board; events = events; seen = seen }

-- A row of the table, of calls alone.
abbrev pub from : ℕ → Board → List Call → List Seen → Case
from name board calls seen = from_events name board (map call calls) seen

-- K1 to K11, each part of each; in K4 worker 0 holds lock 1, which is a 1 in the second four bits.
unfoldable pub table : List Case
table =
    from 1 (blank_for 1) [] (ends_in (FormatStart 1 1) 3 ∷ [])
    ∷ from 1 (blank_for 1) (format 1 1) (memory_line 0 (1 ∷ 1 ∷ 1 ∷ 0 ∷ 0 ∷ 0 ∷ 0 ∷ 0 ∷ []) ∷ [])
    ∷ from 2 (blank_for 1) [] (answers (FormatStart 1 2) 1 ∷ answers (FormatStart 512 1) 1 ∷ [])
    ∷ from 2 (blank 4096) [] (answers (FormatStart 511 8) 0 ∷ [])
    ∷ from 3 (blank 15) [] (answers RecoveryStart 4 ∷ [])
    ∷ from 3 (blank 16) [] (answers RecoveryStart 5 ∷ [])
    ∷ from 4 (blank_for 1) calls4 (cache_line 1 (0 ∷ 0 ∷ 0 ∷ 0 ∷ 0 ∷ 1 ∷ 0 ∷ 0 ∷ []) ∷ dirty_words (2 ∷ replicate 7 0) ∷ holders 16 ∷ [])
    ∷ from 5 (blank_for 1) calls5 (cache_line 1 (0 ∷ 0 ∷ 0 ∷ 7 ∷ 0 ∷ 1 ∷ 0 ∷ 0 ∷ []) ∷ memory_line 1 (replicate 8 0) ∷ holders 0 ∷ [])
    ∷ from 6 (blank_for 1) calls6 (ends_in RecoveryStart 4 ∷ [])
    ∷ from 6 (blank_for 1) (calls6 ++ recovery 4) (memory_line 1 (replicate 8 0) ∷ [])
    ∷ from 7 (blank_for 1) calls7 (cache_line 1 (0 ∷ 0 ∷ 0 ∷ 9 ∷ 0 ∷ 1 ∷ 0 ∷ 0 ∷ []) ∷ answers (Advance 0) 8 ∷ [])
    ∷ from 8 (blank_for 1) (calls8 4) (memory_line 0 (2 ∷ 1 ∷ 1 ∷ 0 ∷ 0 ∷ 0 ∷ 0 ∷ 0 ∷ []) ∷ memory_line 1 (3 ∷ 0 ∷ 1 ∷ 7 ∷ 0 ∷ 1 ∷ 0 ∷ 0 ∷ []) ∷ answers Step 10 ∷ [])
    ∷ from 9 (blank_for 1) (calls8 4) (ends_in RecoveryStart 2 ∷ [])
    ∷ from 9 (blank_for 1) (calls8 4 ++ recovery 2) (reads 1 7 ∷ [])
    ∷ from_events 10 (blank_for 1) (map call (calls8 2) ++ (cut_with_garbage ∷ map call (recovery 6))) (reads 0 0 ∷ reads 1 0 ∷ [])
    ∷ from_events 10 (blank_for 1) (map call (calls8 2 ++ (WriteBack 0 ∷ [])) ++ (cut_with_garbage ∷ map call (recovery 2))) (reads 1 7 ∷ [])
    ∷ from 11 (running_at (2 ^ 64 - 1)) [] (answers Request 11 ∷ [])
    ∷ from 11 (running_at (2 ^ 64 - 2)) [] (answers Request 0 ∷ [])
    ∷ []

-- Every case of a table holds.
unfoldable pub Each : List Case → Type 0
Each [] = Unit {0}
Each (k ∷ ks) = (holds k ≡ true) × Each ks

-- "K1 to K11 hold of the definitions, as a table proved by one statement."
abbrev pub BenchHolds : Type 0
BenchHolds = Each table
