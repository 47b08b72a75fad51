-- Document 01, "Steps", and document 02, tickets 2, 4, 5 and 6: what a taken call does, store by store.
use Rattle.std.specs.Prelude.{ℕ, ◌+◌, List, [], ◌∷◌, cond, ◌&&◌, leb, ltb, set}
use Rattle.board.specs.declared.State.{State}
use Rattle.board.specs.declared.Condition.{Condition}
use Rattle.board.specs.declared.Condition.TheVariants.{Free, Waiting, Updating, Away}
use Rattle.board.specs.declared.Store.{Store}
use Rattle.board.specs.declared.Store.TheVariants.{Backup, Mark, Record}
use Rattle.board.specs.declared.UndoStep.{UndoStep}
use Rattle.board.specs.declared.UndoStep.TheVariants.{Restore, Unmark, WriteLine}
use Rattle.board.specs.declared.Phase.{Phase}
use Rattle.board.specs.declared.Phase.TheVariants.{Off, Formatting, Recovering, Running}
use Rattle.board.specs.declared.Call.{Call}
use Rattle.board.specs.declared.Call.TheVariants.{FormatStart, RecoveryStart, Step, Update, RestartPoint, Advance, Request, WriteBack, Read, GoAway, ComeBack, Count, TakeLock, GiveBackLock}
use Rattle.bitset.specs.Words.{empty}
use Rattle.locks.specs.Holders.{held_by, given_back}
use Rattle.line.specs.declared.Field.{Field}
use Rattle.line.specs.Line.{line_of, with_line}
use Rattle.line.specs.Cell.{cell_line, field_of, with_field}
use Rattle.board.specs.Board.{Board, shaped, shape_of, shape_in, epoch_of, workers_of, header_words, zero_words}
use Rattle.board.specs.Location.{cell, logged, Stop, stops, stop_at, stop_line, undoes, restored, unmarked}
use Rattle.board.specs.State.{condition_of, started, placed, opened, requesting, released, conditioned, dirtied, locked}
use Rattle.board.specs.Checkpoint.{Act, write_line, store_epoch, write_header, release, acts}

-- ---- what a step does to the rows

-- "A write-back copies a whole line from cache to memory."
abbrev pub written_back : ℕ → Board → List ℕ
written_back l b = with_line b.memory l (line_of b.cache l)

-- The board with the given words in line `l`, "in both" rows.
abbrev pub in_both : ℕ → List ℕ → State → Board → Board
in_both l words s b =
    record { state = s; memory = with_line b.memory l words; cache = with_line b.cache l words }

-- The board with line `l` written back.
abbrev pub backed : ℕ → State → Board → Board
backed l s b = record { state = s; memory = written_back l b; cache = b.cache }

-- The board with another cache.
abbrev pub cached : List ℕ → State → Board → Board
cached cache s b = record { state = s; memory = b.memory; cache = cache }

-- The board with another state record.
abbrev pub stated : State → Board → Board
stated s b = record { state = s; memory = b.memory; cache = b.cache }

-- ---- a cell's log

-- "backup := record": the old value logged.
abbrev pub backed_up : List ℕ → ℕ → List ℕ
backed_up row c = with_field row c Field.Backup (field_of row c Field.Record)

-- "mark := epoch".
abbrev pub marked_now : List ℕ → ℕ → List ℕ
marked_now row c = with_field row c Field.Mark (epoch_of row)

-- "record := value".
abbrev pub recorded : List ℕ → ℕ → ℕ → List ℕ
recorded row c value = with_field row c Field.Record value

-- ---- format

-- "L+2 steps: memory and cache line 0 become zeros; each of lines 1 to L, rising, becomes zeros in both; line 0 becomes epoch 1, L, W and zeros in both."
unfoldable pub format_step : State → Board → Board
format_step s b =
    cond (leb s.place s.lines)
    (in_both s.place zero_words (placed s (s.place + 1) s.undo) b)
    (in_both 0 (header_words 1 (shape_of s) s.workers) (opened s empty) b)

-- ---- recovery

-- The stop that a recovery has come to.
abbrev pub stop_of : State → Stop
stop_of s = stop_at (shape_of s) s.place

-- "Then cells from 0 up .. After the last cell: running": the state record past the stop.
abbrev pub past_stop : State → State
past_stop s =
    cond (ltb (s.place + 1) (stops (shape_of s)))
    (placed s (s.place + 1) Restore)
    (opened s s.dirty)

-- "record := backup; mark := 0; its line written back"; any other cell, "one step that stores nothing". The mark is looked at only before the first.
unfoldable pub recovery_step : UndoStep → State → Board → Board
recovery_step Restore s b =
    cond (undoes b.cache (stop_of s))
    (cached (restored b.cache (stop_of s)) (placed s s.place Unmark) b)
    (stated (past_stop s) b)
recovery_step Unmark s b = cached (unmarked b.cache (stop_of s)) (placed s s.place WriteLine) b
recovery_step WriteLine s b = backed (stop_line (stop_of s)) (past_stop s) b

-- ---- checkpoint

-- What each act does; each but the release goes on to the next place.
unfoldable pub perform_act : Act → State → Board → Board
perform_act (write_line l) s b = backed l (placed s (s.place + 1) s.undo) b
perform_act store_epoch s b = cached (set b.cache 0 (epoch_of b.cache + 1)) (placed s (s.place + 1) s.undo) b
perform_act write_header s b = backed 0 (placed s (s.place + 1) s.undo) b
perform_act release s b = stated (released s) b

-- A checkpoint's step: the first of the acts that are left.
unfoldable pub perform_first : List Act → State → Board → Board
perform_first [] s b = b
perform_first (act ∷ later) s b = perform_act act s b

-- ---- the step call

-- A step, by the phase; "the step call needs a phase other than off".
unfoldable pub step : Phase → State → Board → Board
step Off s b = b
step Formatting s b = format_step s b
step Recovering s b = recovery_step s.undo s b
step Running s b = perform_first (acts b) s b

-- ---- updates and restart points

-- "If the mark differs from the cache's epoch, three advances follow .. If the mark equals the epoch, only the last. This is decided at the start."
abbrev pub first_store : List ℕ → ℕ → Store
first_store row c = cond (logged row (cell c)) Record Backup

-- "The start notes it."
abbrev pub noted : ℕ → ℕ → ℕ → Board → Board
noted w c v b = stated (conditioned b.state w (Updating (first_store b.cache c) c v)) b

-- "At the last store the worker becomes waiting if a checkpoint is requested by then" (a restart point's), "else free".
abbrev pub after_last : State → ℕ → Condition
after_last s c = cond (ltb c s.workers && s.requested) Waiting Free

-- "backup := record; mark := epoch; record := value"; 02: "Marking a cell now promises its line's bit too".
unfoldable pub advance : Store → ℕ → ℕ → ℕ → State → Board → Board
advance Backup w c v s b = cached (backed_up b.cache c) (conditioned s w (Updating Mark c v)) b
advance Mark w c v s b = cached (marked_now b.cache c) (dirtied (conditioned s w (Updating Record c v)) (cell_line c)) b
advance Record w c v s b = cached (recorded b.cache c v) (conditioned s w (after_last s c)) b

-- An advance of a worker, by its condition; of one free, waiting or away there is none.
unfoldable pub advance_of : Condition → ℕ → State → Board → Board
advance_of Free w s b = b
advance_of Waiting w s b = b
advance_of (Updating next c v) w s b = advance next w c v s b
advance_of Away w s b = b

-- ---- every call

-- What each call does where no cause stands: "Each of the two starts sets every field"; "Recovery. The start copies memory to cache"; 02: "A free worker may go away and come back free"; "takes a free lock", "gives it back".
unfoldable pub effect : Call → Board → Board
effect (FormatStart l w) b = stated (started Formatting (shaped l) w) b
effect RecoveryStart b = cached b.memory (started Recovering (shape_in b.memory) (workers_of b.memory)) b
effect Step b = step b.state.phase b.state b
effect (Update w c v) b = noted w c v b
effect (RestartPoint w v) b = noted w w v b
effect (Advance w) b = advance_of (condition_of b.state w) w b.state b
effect Request b = stated (requesting b.state) b
effect (WriteBack l) b = backed l b.state b
effect (Read c) b = b
effect (GoAway w) b = stated (conditioned b.state w Away) b
effect (ComeBack w) b = stated (conditioned b.state w Free) b
effect Count b = b
effect (TakeLock w k) b = stated (locked b.state (held_by b.state.holders k w)) b
effect (GiveBackLock w k) b = stated (locked b.state (given_back b.state.holders k)) b
