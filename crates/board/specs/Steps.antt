-- What is claimed of single calls on any board, each claim as a type: what a step writes, and when a call is taken. `proofs/Steps/Theorems.antt` proves every one.
use Rattle.std.specs.Prelude.{ℕ, suc, ◌+◌, ◌*◌, ◌/◌, ◌%◌, ◌≤◌, ◌<◌, ◌≡◌, ◌⊎◌, ◌↔◌, Bool, true, false, length, get_or, replicate}
use mathlib.Core.List.{List, ◌∷◌, ◌++◌, Memᴰ}
use Rattle.line.specs.declared.Field.{Field}
use Rattle.line.specs.Line.{line_start}
use Rattle.line.specs.Cell.{cell_line, field_index}
use Rattle.board.specs.declared.State.{State}
use Rattle.board.specs.declared.Condition.{Condition}
use Rattle.board.specs.declared.Condition.TheVariants.{Free, Waiting, Updating, Away}
use Rattle.board.specs.declared.Store.{Store}
use Rattle.board.specs.declared.Phase.{Phase}
use Rattle.board.specs.declared.Phase.TheVariants.{Formatting, Recovering, Running}
use Rattle.board.specs.declared.UndoStep.TheVariants.{Restore}
use Rattle.board.specs.declared.Call.{Call}
use Rattle.board.specs.declared.Call.TheVariants.{FormatStart, RecoveryStart, Step, Advance, Request, GoAway, ComeBack}
use Rattle.board.specs.Board.{Board}
use Rattle.board.specs.State.{condition_of, dirty_count}
use Rattle.board.specs.Causes.{Cause, causes, cause}
use Rattle.board.specs.Next.{next, Taken, profile, kind, is_start}
use Rattle.board.specs.Statements.{steps_from, KeepsAway}

-- ---- 1. format

-- Between two rows only one line differs, and it has the given words.
pub record OnlyLine (line : ℕ) (given row row' : List ℕ) : Type 0 where
  pub others : (i : ℕ) → (i / 8 ≡ line → ⊥) → get_or row' i 0 ≡ get_or row i 0
  pub size : length row' ≡ length row
  pub words : (k : ℕ) → k < 8 → get_or row' (line_start line + k) 0 ≡ get_or given k 0

-- "in both": memory and cache differ in that line alone.
pub record OnlyLineInBoth (line : ℕ) (given : List ℕ) (b b' : Board) : Type 0 where
  pub memory : OnlyLine line given b.memory b'.memory
  pub cache : OnlyLine line given b.cache b'.cache

-- The board `i` steps after a format's start.
abbrev pub format_after : ℕ → ℕ → Board → ℕ → Board
format_after l w b i = steps_from i (next (FormatStart l w) b)

-- "Then L+2 steps: memory and cache line 0 become zeros; each of lines 1 to L, rising, becomes zeros in both; line 0 becomes epoch 1, L, W and zeros in both", each step writing its line alone.
abbrev pub FormatWrites : Type 0
FormatWrites =
    (l w : ℕ) (b : Board) → Taken (FormatStart l w) b →
    ((i : ℕ) → i ≤ l → OnlyLineInBoth i (replicate 8 0) (format_after l w b i) (format_after l w b (suc i)))
    × OnlyLineInBoth 0 (1 ∷ l ∷ w ∷ replicate 5 0) (format_after l w b (l + 1)) (format_after l w b (suc (l + 1)))

-- ---- 2. recovery

-- Nothing is written but the record and the mark of cell `c` in the cache and that cell's line in memory; a recovery that goes on is at that cell or at the next.
pub record OnlyCell (c : ℕ) (b b' : Board) : Type 0 where
  pub cache : (i : ℕ) → (i ≡ field_index c Field.Record → ⊥) → (i ≡ field_index c Field.Mark → ⊥) → get_or b'.cache i 0 ≡ get_or b.cache i 0
  pub cache_size : length b'.cache ≡ length b.cache
  pub memory : (i : ℕ) → (i / 8 ≡ cell_line c → ⊥) → get_or b'.memory i 0 ≡ get_or b.memory i 0
  pub memory_size : length b'.memory ≡ length b.memory
  pub place : b'.state.phase ≡ Recovering → (b'.state.place ≡ c) ⊎ (b'.state.place ≡ c + 1)

-- "cells from 0 up: a cell whose mark equals the epoch takes three steps (record := backup; mark := 0; its line written back), any other, .., one step that stores nothing": no step goes beyond the cell at its place.
abbrev pub RecoveryWrites : Type 0
RecoveryWrites = (b : Board) → b.state.phase ≡ Recovering → Taken Step b → OnlyCell b.state.place b (next Step b)

-- ---- 3. release

-- Of the eight workers those that were away are away and the others free, no line is dirty, no request stands, the place is 0 with a recovery's first step; phase, L, W, the locks' holders and the rows are as they were.
pub record Released (b b' : Board) : Type 0 where
  pub eight : length b'.state.worker ≡ 8
  pub workers_after : KeepsAway b.state b'.state
  pub clean : b'.state.dirty ≡ replicate 8 0
  pub holders : b'.state.holders ≡ b.state.holders
  pub request : b'.state.requested ≡ false
  pub place : b'.state.place ≡ 0
  pub undo : b'.state.undo ≡ Restore
  pub phase : b'.state.phase ≡ b.state.phase
  pub lines : b'.state.lines ≡ b.state.lines
  pub workers : b'.state.workers ≡ b.state.workers
  pub memory : b'.memory ≡ b.memory
  pub cache : b'.cache ≡ b.cache

-- "release, with all eight workers free, .. request gone"; 02: "Release leaves it away", and the bits "stay set until release": the last of a checkpoint's n+3 steps, whatever the record.
abbrev pub Releases : Type 0
Releases = (b : Board) → b.state.phase ≡ Running → Taken Step b → b.state.place ≡ dirty_count b.state + 2 → Released b (next Step b)

-- ---- 4. the last store of an update

-- The update of cell `c` is a restart point, and a checkpoint is requested.
abbrev pub MustWait : ℕ → Board → Type 0
MustWait c b = (c < b.state.workers) × (b.state.requested ≡ true)

-- Worker `w` waits exactly where it must, and is free elsewhere.
pub record Ended (w c : ℕ) (b b' : Board) : Type 0 where
  pub waits : (condition_of b'.state w ≡ Waiting) ↔ MustWait c b
  pub free : (MustWait c b → ⊥) → condition_of b'.state w ≡ Free

-- "At the last store the worker becomes waiting if a checkpoint is requested by then, else free": a restart point's alone, so a data update's worker is free.
abbrev pub LastStore : Type 0
LastStore = (w c v : ℕ) (b : Board) → condition_of b.state w ≡ Updating Store.Record c v → Taken (Advance w) b → Ended w c b (next (Advance w) b)

-- ---- 5. the table read both ways

-- No line of a table stands.
abbrev pub NoneStands : List Cause → Type 0
NoneStands table = (c : Cause) → Memᴰ c table → c.stands ≡ false

-- A line of number `n` stands, and none before it.
pub record StandsFirst (n : ℕ) (table : List Cause) : Type 0 where
  pub before : List Cause
  pub first : Cause
  pub rest : List Cause
  pub parts : table ≡ before ++ (first ∷ rest)
  pub clear : NoneStands before
  pub stands : first.stands ≡ true
  pub number : first.number ≡ n

-- A call is taken exactly when no line of its table stands; it is refused by the number of the first that does, and then all is as it was.
pub record ReadBothWays (k : Call) (b : Board) : Type 0 where
  pub taken : Taken k b ↔ NoneStands (causes k b)
  pub refused : (Taken k b → ⊥) → StandsFirst (cause k b) (causes k b)
  pub kept : (Taken k b → ⊥) → next k b ≡ b

-- "Checked in rising order of number. A taken call returns 0."
abbrev pub TableBothWays : Type 0
TableBothWays = (k : Call) (b : Board) → ReadBothWays k b

-- "L, the cell lines, is 1 to 511", "W, the workers, is 1 to 8, and W < 2L", "8×(L+1) words".
pub record Formattable (l w : ℕ) (b : Board) : Type 0 where
  pub lines_within : (1 ≤ l) × (l ≤ 511)
  pub workers_within : (1 ≤ w) × (w ≤ 8) × (w < 2 * l)
  pub memory : length b.memory ≡ 8 * (l + 1)
  pub cache : length b.cache ≡ 8 * (l + 1)

-- With these a format starts on any board, and with no other.
abbrev pub FormatStarts : Type 0
FormatStarts = (l w : ℕ) (b : Board) → Taken (FormatStart l w) b ↔ Formattable l w b

-- ---- 6. the two starts

-- "Each of the two starts sets every field of the state record": the phase, L and W given, no lock held, no line dirty; memory is as it was, and the cache is the one given.
pub record Begun (phase : Phase) (l w : ℕ) (cache : List ℕ) (b b' : Board) : Type 0 where
  pub in_phase : b'.state.phase ≡ phase
  pub lines : b'.state.lines ≡ l
  pub workers : b'.state.workers ≡ w
  pub unheld : b'.state.holders ≡ 0
  pub clean : b'.state.dirty ≡ replicate 8 0
  pub place : b'.state.place ≡ 0
  pub undo : b'.state.undo ≡ Restore
  pub request : b'.state.requested ≡ false
  pub eight : length b'.state.worker ≡ 8
  pub free : (i : ℕ) → condition_of b'.state i ≡ Free
  pub memory : b'.memory ≡ b.memory
  pub current : b'.cache ≡ cache

-- "Format. The start changes no row."
abbrev pub FormatBegins : Type 0
FormatBegins = (l w : ℕ) (b : Board) → Taken (FormatStart l w) b → Begun Formatting l w b.cache b (next (FormatStart l w) b)

-- "Recovery. The start copies memory to cache", with L and W "from the header", words 1 and 2.
abbrev pub RecoveryBegins : Type 0
RecoveryBegins =
    (b : Board) → Taken RecoveryStart b → Begun Recovering (get_or b.memory 1 0) (get_or b.memory 2 0) b.memory b (next RecoveryStart b)

-- Where cell `c` has its record: "Cell c .. stands in line 1 + (c div 2), from word 3×(c mod 2): record, backup, mark".
abbrev pub record_word : ℕ → ℕ
record_word c = 8 * (1 + c / 2) + 3 * (c % 2)

-- Where it has its backup.
abbrev pub backup_word : ℕ → ℕ
backup_word c = record_word c + 1

-- Where it has its mark.
abbrev pub mark_word : ℕ → ℕ
mark_word c = record_word c + 2

-- A board of `l` lines and `w` workers that can be recovered: rows of 8×(L+1) words, epoch, L and W in the header and zeros after them; 02, ticket 4:
-- no cell's mark in memory greater than memory's epoch. Nothing is asked of the state record, of what the cache holds, or of the other words of the cell lines.
pub record Recoverable (l w : ℕ) (b : Board) : Type 0 where
  pub lines_within : (1 ≤ l) × (l ≤ 511)
  pub workers_within : (1 ≤ w) × (w ≤ 8) × (w < 2 * l)
  pub memory : length b.memory ≡ 8 * (l + 1)
  pub cache : length b.cache ≡ 8 * (l + 1)
  pub epoch : 0 < get_or b.memory 0 0
  pub lines : get_or b.memory 1 0 ≡ l
  pub workers : get_or b.memory 2 0 ≡ w
  pub rest : (k : ℕ) → 3 ≤ k → k < 8 → get_or b.memory k 0 ≡ 0
  pub marks : (c : ℕ) → c < 2 * l → get_or b.memory (mark_word c) 0 ≤ get_or b.memory 0 0

-- Recovery's start takes those boards and no other.
abbrev pub RecoveryTakes : Type 0
RecoveryTakes = (b : Board) → Taken RecoveryStart b ↔ Recoverable (get_or b.memory 1 0) (get_or b.memory 2 0) b

-- ---- 7. a request, and the end of a format or recovery

-- A request stands, at place 0 with a recovery's first step, and nothing else has changed.
pub record Asked (b b' : Board) : Type 0 where
  pub request : b'.state.requested ≡ true
  pub place : b'.state.place ≡ 0
  pub undo : b'.state.undo ≡ Restore
  pub phase : b'.state.phase ≡ b.state.phase
  pub lines : b'.state.lines ≡ b.state.lines
  pub workers : b'.state.workers ≡ b.state.workers
  pub holders : b'.state.holders ≡ b.state.holders
  pub dirty : b'.state.dirty ≡ b.state.dirty
  pub worker : b'.state.worker ≡ b.state.worker
  pub memory : b'.memory ≡ b.memory
  pub cache : b'.cache ≡ b.cache

-- "A request .. set the place to 0."
abbrev pub Requests : Type 0
Requests = (b : Board) → Taken Request b → Asked b (next Request b)

-- The board runs, all eight workers free, at place 0, with the given dirty lines; L, W, the locks' holders and the request are as they were.
pub record Opened (dirty : List ℕ) (b b' : Board) : Type 0 where
  pub phase : b'.state.phase ≡ Running
  pub lines : b'.state.lines ≡ b.state.lines
  pub workers : b'.state.workers ≡ b.state.workers
  pub holders : b'.state.holders ≡ b.state.holders
  pub line_bits : b'.state.dirty ≡ dirty
  pub place : b'.state.place ≡ 0
  pub undo : b'.state.undo ≡ Restore
  pub request : b'.state.requested ≡ b.state.requested
  pub eight : length b'.state.worker ≡ 8
  pub free : (i : ℕ) → condition_of b'.state i ≡ Free

-- "Then running, all free", no line dirty: the last step of a format.
abbrev pub FormatOpens : Type 0
FormatOpens = (b : Board) → b.state.phase ≡ Formatting → Taken Step b → b.state.place ≡ b.state.lines + 1 → Opened (replicate 8 0) b (next Step b)

-- "After the last cell: running in the same epoch, all free"; the lines' bits, which the rule does not name, stay.
abbrev pub RecoveryOpens : Type 0
RecoveryOpens =
    (b : Board) → b.state.phase ≡ Recovering → Taken Step b → ((next Step b).state.phase ≡ Recovering → ⊥) → Opened b.state.dirty b (next Step b)

-- ---- 8. going away and coming back

-- Worker `w` is in the given condition; every other worker, and every other field but the dirty lines, is as it was.
pub record OnlyCondition (w : ℕ) (condition : Condition) (s s' : State) : Type 0 where
  pub worker : condition_of s' w ≡ condition
  pub others : (i : ℕ) → (i ≡ w → ⊥) → condition_of s' i ≡ condition_of s i
  pub eight : length s'.worker ≡ length s.worker
  pub phase : s'.phase ≡ s.phase
  pub lines : s'.lines ≡ s.lines
  pub workers : s'.workers ≡ s.workers
  pub holders : s'.holders ≡ s.holders
  pub place : s'.place ≡ s.place
  pub undo : s'.undo ≡ s.undo
  pub request : s'.requested ≡ s.requested

-- Worker `w` is in the given condition; every other worker, every other field and the rows are as they were.
pub record OnlyWorker (w : ℕ) (condition : Condition) (b b' : Board) : Type 0 where
  pub conditions : OnlyCondition w condition b.state b'.state
  pub dirty : b'.state.dirty ≡ b.state.dirty
  pub memory : b'.memory ≡ b.memory
  pub cache : b'.cache ≡ b.cache

-- 02: "A free worker may go away": on a record of eight workers.
abbrev pub GoesAway : Type 0
GoesAway = (w : ℕ) (b : Board) → length b.state.worker ≡ 8 → Taken (GoAway w) b → OnlyWorker w Away b (next (GoAway w) b)

-- 02: "and come back free".
abbrev pub ComesBack : Type 0
ComesBack = (w : ℕ) (b : Board) → Taken (ComeBack w) b → OnlyWorker w Free b (next (ComeBack w) b)

-- The call names worker `i`.
abbrev pub names : Call → ℕ → Bool
names k i = (profile k).names i

-- A taken call of a running board leaves every worker that it does not name in its condition, so one that is away stays away until it comes back; but for the two starts (6) and the release (3).
abbrev pub OthersStay : Type 0
OthersStay =
    (k : Call) (b : Board) → b.state.phase ≡ Running → Taken k b → is_start (kind k) ≡ false → (k ≡ Step → b.state.place ≡ dirty_count b.state + 2 → ⊥) →
    (i : ℕ) → names k i ≡ false → condition_of (next k b).state i ≡ condition_of b.state i
