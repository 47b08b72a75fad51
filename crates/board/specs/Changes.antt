-- What is claimed of every taken call on any board, of every page and of every HEX text: exactly what it changes, word by word and field by field. `proofs/Changes/Theorems.antt` proves it.
use Rattle.std.specs.Prelude.{ℕ, ◌+◌, ◌*◌, ◌/◌, ◌≤◌, ◌<◌, ◌≡◌, List, ◌∷◌, ◌++◌, true, length, get_or, drop, replicate}
use Rattle.predicate.specs.Passing.{count_under}
use Rattle.bitset.specs.Words.{contains}
use Rattle.locks.specs.Holders.{holds, unheld}
use Rattle.board.specs.declared.State.{State}
use Rattle.board.specs.declared.Condition.{Condition}
use Rattle.board.specs.declared.Condition.TheVariants.{Free, Waiting, Updating, Away}
use Rattle.board.specs.declared.Store.{Store}
use Rattle.board.specs.declared.Store.TheVariants.{Backup, Mark, Record}
use Rattle.board.specs.declared.UndoStep.{UndoStep}
use Rattle.board.specs.declared.UndoStep.TheVariants.{Restore, Unmark, WriteLine}
use Rattle.board.specs.declared.Phase.{Phase}
use Rattle.board.specs.declared.Phase.TheVariants.{Off, Formatting, Recovering, Running}
use Rattle.board.specs.declared.Call.{Call}
use Rattle.board.specs.declared.Call.TheVariants.{FormatStart, RecoveryStart, Step, Update, RestartPoint, Advance, Request, WriteBack, Read, GoAway, ComeBack, Count, TakeLock, GiveBackLock}
use Rattle.board.specs.Board.{Board}
use Rattle.board.specs.State.{condition_of, dirty_count}
use Rattle.board.specs.Next.{next, Taken}
use Rattle.board.specs.Page.{page_text, PagePerformed}
use Rattle.board.specs.Hex.{hex_text, HexWritePerformed, file, parsed, words_of, HexReadPerformed}
use Rattle.board.specs.Steps.{OnlyLineInBoth, MustWait, Begun, Asked, Opened, Released, OnlyCondition, OnlyWorker, record_word, backup_word, mark_word}
use Rattle.board.specs.Foretold.{LineSet}
use Rattle.board.specs.Locks.{OthersHeld, OnlyHolders}

-- ---- 1. rows and record

-- Between two rows only word `i` differs, and it is `v`.
pub record OnlyWord (i v : ℕ) (row row' : List ℕ) : Type 0 where
  pub word : get_or row' i 0 ≡ v
  pub others : (j : ℕ) → (j ≡ i → ⊥) → get_or row' j 0 ≡ get_or row j 0
  pub size : length row' ≡ length row

-- A store: one word of the cache, and nothing in memory.
pub record WordStored (i v : ℕ) (b b' : Board) : Type 0 where
  pub cache : OnlyWord i v b.cache b'.cache
  pub memory : b'.memory ≡ b.memory

-- "A write-back copies a whole line from cache to memory": memory has that line as the cache has it and is else as it was, and the cache is as it was.
pub record LineWritten (line : ℕ) (b b' : Board) : Type 0 where
  pub written : (i : ℕ) → i / 8 ≡ line → get_or b'.memory i 0 ≡ get_or b.cache i 0
  pub others : (i : ℕ) → (i / 8 ≡ line → ⊥) → get_or b'.memory i 0 ≡ get_or b.memory i 0
  pub size : length b'.memory ≡ length b.memory
  pub cache : b'.cache ≡ b.cache

-- Neither row has changed.
pub record RowsStay (b b' : Board) : Type 0 where
  pub memory : b'.memory ≡ b.memory
  pub cache : b'.cache ≡ b.cache

-- Of the record nothing has changed but the place and a recovery's step, which are as given.
pub record OnlyPlace (place : ℕ) (undo : UndoStep) (s s' : State) : Type 0 where
  pub place_after : s'.place ≡ place
  pub undo_after : s'.undo ≡ undo
  pub phase : s'.phase ≡ s.phase
  pub lines : s'.lines ≡ s.lines
  pub workers : s'.workers ≡ s.workers
  pub holders : s'.holders ≡ s.holders
  pub dirty : s'.dirty ≡ s.dirty
  pub request : s'.requested ≡ s.requested
  pub worker : s'.worker ≡ s.worker

-- "What the rules of a taken call don't name stays": a step of a format or a checkpoint goes on to the next place and leaves a recovery's step.
abbrev pub GoesOn : Board → Board → Type 0
GoesOn b b' = OnlyPlace (b.state.place + 1) b.state.undo b.state b'.state

-- ---- 2. a format's step

-- "line 0 become zeros; each of lines 1 to L, rising, becomes zeros in both; line 0 becomes epoch 1, L, W and zeros in both. Then running, all free": the
-- line at its place, by the place.
pub record FormatStepped (b b' : Board) : Type 0 where
  pub within : b.state.place ≤ b.state.lines + 1
  pub erases : b.state.place ≤ b.state.lines → OnlyLineInBoth b.state.place (replicate 8 0) b b' × GoesOn b b'
  pub ends :
      b.state.place ≡ b.state.lines + 1 →
      OnlyLineInBoth 0 (1 ∷ b.state.lines ∷ b.state.workers ∷ replicate 5 0) b b' × Opened (replicate 8 0) b b'

-- ---- 3. a recovery's step

-- Cell `c` has the row's epoch as its mark.
abbrev pub MarkedNow : ℕ → List ℕ → Type 0
MarkedNow c row = get_or row (mark_word c) 0 ≡ get_or row 0 0

-- "cells from 0 up .. After the last cell: running in the same epoch, all free": past the cell at its place.
pub record PastCell (b b' : Board) : Type 0 where
  pub goes_on : b.state.place + 1 < 2 * b.state.lines → OnlyPlace (b.state.place + 1) Restore b.state b'.state
  pub ends : 2 * b.state.lines ≤ b.state.place + 1 → Opened b.state.dirty b b'

-- "a cell whose mark equals the epoch takes three steps (record := backup; mark := 0; its line written back), any other, .., one step that stores nothing. The mark is
-- looked at only before the first of the three": the cell at its place, by the step that is next.
abbrev pub RecoveryStepped : UndoStep → ℕ → Board → Board → Type 0
RecoveryStepped Restore c b b' =
    (MarkedNow c b.cache → WordStored (record_word c) (get_or b.cache (backup_word c) 0) b b' × OnlyPlace c Unmark b.state b'.state)
    × ((MarkedNow c b.cache → ⊥) → RowsStay b b' × PastCell b b')
RecoveryStepped Unmark c b b' = WordStored (mark_word c) 0 b b' × OnlyPlace c WriteLine b.state b'.state
RecoveryStepped WriteLine c b b' = LineWritten (1 + c / 2) b b' × PastCell b b'

-- ---- 4. a checkpoint's step

-- 02: "the set lines in rising order": line `line` is the p-th of them, from 0.
pub record DirtyLine (p line : ℕ) (words : List ℕ) : Type 0 where
  pub set : contains words line ≡ true
  pub below : count_under line (contains words) ≡ p

-- Some line is the p-th dirty one, and it is written.
pub record DirtyWritten (p : ℕ) (b b' : Board) : Type 0 where
  pub line : ℕ
  pub rank : DirtyLine p line b.state.dirty
  pub written : LineWritten line b b'

-- "one step for each list entry in list order, writing that cell's line back" (02: the set lines, rising); "epoch := epoch + 1 in the cache; line 0 written back;
-- release": by the place, with n dirty lines.
pub record CheckpointStepped (n : ℕ) (b b' : Board) : Type 0 where
  pub within : b.state.place ≤ n + 2
  pub lines : b.state.place < n → DirtyWritten b.state.place b b' × GoesOn b b'
  pub epoch : b.state.place ≡ n → WordStored 0 (get_or b.cache 0 0 + 1) b b' × GoesOn b b'
  pub header : b.state.place ≡ n + 1 → LineWritten 0 b b' × GoesOn b b'
  pub release : b.state.place ≡ n + 2 → Released b b'

-- A step, by the phase; no step is taken while off.
abbrev pub StepChanges : Phase → Board → Board → Type 0
StepChanges Off b b' = ⊥
StepChanges Formatting b b' = FormatStepped b b'
StepChanges Recovering b b' = RecoveryStepped b.state.undo b.state.place b b'
StepChanges Running b b' = CheckpointStepped (dirty_count b.state) b b'

-- ---- 5. updates and restart points

-- "The start notes it. If the mark differs from the cache's epoch, three advances follow .. If the mark equals the epoch, only the last": that worker's
-- condition, and nothing else.
pub record Noted (w c v : ℕ) (b b' : Board) : Type 0 where
  pub one : MarkedNow c b.cache → OnlyWorker w (Updating Record c v) b b'
  pub three : (MarkedNow c b.cache → ⊥) → OnlyWorker w (Updating Backup c v) b b'

-- One word stored, that worker's condition, and nothing else of the record but what is said of the dirty lines.
pub record StoreDone (i v w : ℕ) (condition : Condition) (b b' : Board) : Type 0 where
  pub word : WordStored i v b b'
  pub worker : OnlyCondition w condition b.state b'.state

-- No line's bit has changed.
abbrev pub SameDirty : Board → Board → Type 0
SameDirty b b' = b'.state.dirty ≡ b.state.dirty

-- "backup := record; mark := epoch, .. record := value", 02: "Marking a cell now promises its line's bit too": the store that is next, and the worker's
-- condition after it.
abbrev pub StoreMade : Store → ℕ → ℕ → ℕ → Board → Board → Type 0
StoreMade Backup w c v b b' = StoreDone (backup_word c) (get_or b.cache (record_word c) 0) w (Updating Mark c v) b b' × SameDirty b b'
StoreMade Mark w c v b b' = StoreDone (mark_word c) (get_or b.cache 0 0) w (Updating Record c v) b b' × LineSet c b b'
StoreMade Record w c v b b' =
    (MustWait c b → StoreDone (record_word c) v w Waiting b b')
    × ((MustWait c b → ⊥) → StoreDone (record_word c) v w Free b b')
    × SameDirty b b'

-- An advance is of a worker that has an update.
pub record Advanced (w : ℕ) (b b' : Board) : Type 0 where
  pub store : Store
  pub cell : ℕ
  pub value : ℕ
  pub update : condition_of b.state w ≡ Updating store cell value
  pub made : StoreMade store w cell value b b'

-- ---- 6. every call

-- A lock's holder, and nothing else.
abbrev pub OnlyLock : ℕ → Board → Board → Type 0
OnlyLock k b b' = OthersHeld k b b' × OnlyHolders b b'

-- What a taken call leaves, by the call.
abbrev pub Changes : Call → Board → Board → Type 0
Changes (FormatStart l w) b b' = Begun Formatting l w b.cache b b'
Changes RecoveryStart b b' = Begun Recovering (get_or b.memory 1 0) (get_or b.memory 2 0) b.memory b b'
Changes Step b b' = StepChanges b.state.phase b b'
Changes (Update w c v) b b' = Noted w c v b b'
Changes (RestartPoint w v) b b' = Noted w w v b b'
Changes (Advance w) b b' = Advanced w b b'
Changes Request b b' = Asked b b'
Changes (WriteBack l) b b' = (b'.state ≡ b.state) × LineWritten l b b'
Changes (Read c) b b' = b' ≡ b
Changes (GoAway w) b b' = OnlyWorker w Away b b'
Changes (ComeBack w) b b' = OnlyWorker w Free b b'
Changes Count b b' = b' ≡ b
Changes (TakeLock w k) b b' = (holds b'.state.holders w k ≡ true) × OnlyLock k b b'
Changes (GiveBackLock w k) b b' = (unheld b'.state.holders k ≡ true) × OnlyLock k b b'

-- The record has eight workers and eight words of dirty lines, as every record of the engine's has.
pub record EightOfEach (s : State) : Type 0 where
  pub worker : length s.worker ≡ 8
  pub words : length s.dirty ≡ 8

-- Demand 2, store by store: on any board, whatever its record and rows, a taken call changes what is said above, and nothing
-- else.
abbrev pub EachCallChanges : Type 0
EachCallChanges = (k : Call) (b : Board) → EightOfEach b.state → Taken k b → Changes k b (next k b)

-- ---- 7. a page

-- The page that a board's cache gives.
abbrev pub page_of : Board → List ℕ
page_of b = page_text b.cache (2 * b.state.lines)

-- A page, taken or refused, leaves state and rows. Refused, by whatever cause, it leaves every byte of the text row; taken, it leaves the page of the cells
-- in the cache and then the bytes that were there.
abbrev pub PageChanges : Type 0
PageChanges =
    (b b' : Board) (text left : List ℕ) (number : ℕ) → PagePerformed b text number b' left →
    (b' ≡ b) × ((number ≡ 0 → ⊥) → left ≡ text) × (number ≡ 0 → left ≡ page_of b ++ drop (length (page_of b)) text)

-- ---- 8. HEX text

-- Writing changes the text row alone. Refused, by whatever cause, it leaves every byte; taken, it leaves the memory's text and then the bytes that were there.
abbrev pub HexWriteChanges : Type 0
HexWriteChanges =
    (memory text left : List ℕ) (number : ℕ) → HexWritePerformed memory text number left →
    ((number ≡ 0 → ⊥) → left ≡ text) × (number ≡ 0 → left ≡ hex_text memory ++ drop (length (hex_text memory)) text)

-- A row holds just the words of a text, which is a file of eight bytes for each of them.
pub record HoldsText (text row : List ℕ) : Type 0 where
  pub bytes : List ℕ
  pub is_file : parsed text ≡ file bytes
  pub fits : length bytes ≡ 8 * length row
  pub words : row ≡ words_of (length row) bytes

-- Reading changes the row alone, and not its length. Refused, by whatever cause, it leaves every word; taken, the row holds just the words of the text.
abbrev pub HexReadChanges : Type 0
HexReadChanges =
    (text row left : List ℕ) (number : ℕ) → HexReadPerformed text row number left →
    (length left ≡ length row) × ((number ≡ 0 → ⊥) → left ≡ row) × (number ≡ 0 → HoldsText text left)
