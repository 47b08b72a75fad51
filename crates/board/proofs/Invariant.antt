-- The invariant of every run that a history leads to. A running board's is in parts, by the fields that each reads, so that a call carries over what it leaves.
use Prim.Native.Nat.{ℕ, suc, ◌+◌, ◌*◌, ◌≤◌, ◌<◌}
use mathlib.Core.Path.{◌≡◌}
use mathlib.Core.List.{List, Memᴰ}
use mathlib.Core.Bool.{Bool, true, false, ◌||◌}
use lib.ListN.{length, get_or}
use Rattle.bitset.specs.Words.{empty, contains}
use Rattle.bitset.proofs.Members.{Small}
use Rattle.locks.specs.Holders.{held_from}
use Rattle.line.specs.Line.{line_start}
use Rattle.board.specs.declared.State.{State}
use Rattle.board.specs.declared.Worker.{Worker}
use Rattle.board.specs.declared.Condition.{Condition}
use Rattle.board.specs.declared.Condition.TheVariants.{Free, Waiting, Updating, Away}
use Rattle.board.specs.declared.Store.{Store}
use Rattle.board.specs.declared.Store.TheVariants.{Backup, Mark, Record}
use Rattle.board.specs.declared.UndoStep.{UndoStep}
use Rattle.board.specs.declared.UndoStep.TheVariants.{Restore, Unmark, WriteLine}
use Rattle.board.specs.declared.Phase.{Phase}
use Rattle.board.specs.declared.Phase.TheVariants.{Off, Formatting, Recovering, Running}
use Rattle.board.specs.Board.{Board, Shape, shape_of, shape_in, shape_outside, outside, epoch_of, workers_of, rest_not_zero, last_epoch}
use Rattle.board.specs.State.{free_worker, all_free, condition_of, quiescent}
use Rattle.board.specs.Checkpoint.{write_line, progress, acts}
use Rattle.board.specs.Machine.{Unfinished, none, update, Machine, marked_count}
use Rattle.board.specs.Sequence.{Run}
use Rattle.board.specs.Statements.{SameSpare}
use Rattle.board.specs.Location.{Location, cell, Has, line_for, stops}
use Rattle.board.proofs.Laws.View.{View, view, logs, Fit, zeros, place_of, Sized}

-- ---- rows

-- Undoing the view of location `u` in epoch `e` gives `x`.
pub record Undo (u : Location) (e x : ℕ) (v : View) : Type 0 where
  -- a location logged in this epoch has the value in its log
  pub logged : logs u e v ≡ true → v.old ≡ x
  -- any other has it as its own
  pub plain : logs u e v ≡ false → v.value ≡ x
  -- the stamp is one that can stand in this epoch
  pub fit : Fit u e v

-- Undoing every location of a row in epoch `e` gives the values `xs`.
abbrev pub Undoes : Shape → ℕ → (Location → ℕ) → List ℕ → Type 0
Undoes σ e xs row = (u : Location) → Has σ u → Undo u e (xs u) (view row u)

-- A header that recovery's start takes on a board of shape `σ`.
pub record Header (σ : Shape) (row : List ℕ) : Type 0 where
  -- there is a board here
  pub epoch : 0 < epoch_of row
  -- the shape is the board's
  pub shape : shape_in row ≡ σ
  -- shape and W are within the limits
  pub limits : outside σ (workers_of row) ≡ false
  -- the words that mean nothing are zero
  pub rest : rest_not_zero row ≡ false

-- The header's words after the epoch are the same in two rows.
abbrev pub SameSizes : List ℕ → List ℕ → Type 0
SameSizes row row' = (k : ℕ) → 0 < k → k < 8 → get_or row' k 0 ≡ get_or row k 0

-- The sizes of cache `row'` and the record's W are those of the header of memory `row`.
pub record Own (w : ℕ) (row row' : List ℕ) : Type 0 where
  -- memory and cache have one header, but for the epoch
  pub header : SameSizes row row'
  -- the record's W is the header's
  pub workers : w ≡ workers_of row

-- A memory from which recovery gives the values `xs`.
pub record Kept (σ : Shape) (xs : Location → ℕ) (row : List ℕ) : Type 0 where
  -- recovery's start takes the header
  pub header : Header σ row
  -- undoing every location gives the values
  pub undoes : Undoes σ (epoch_of row) xs row

-- Memory `row` and cache `row'` have the lengths that a board of shape `σ` asks.
pub record Lengths (σ : Shape) (row row' : List ℕ) : Type 0 where
  -- the shape is within its limits
  pub limits : shape_outside σ ≡ false
  -- memory has 8×(L+1) words
  pub memory : Sized σ row
  -- so has the cache
  pub cache : Sized σ row'

-- ---- the state record

-- No lock is held by a worker from W on.
abbrev pub HeldUnder : State → Type 0
HeldUnder s = held_from s.holders s.workers ≡ false

-- What the record of a board of shape `σ` has in every phase from a start on: its sizes, its locks and how many workers.
pub record RecordPart (σ own : Shape) (w held : ℕ) (ws : List Worker) : Type 0 where
  -- its shape is the board's
  pub shape : own ≡ σ
  -- shape and W are within the limits
  pub limits : outside σ w ≡ false
  -- a lock's holder is under W
  pub holders : held_from held w ≡ false
  -- there are eight workers
  pub eight : length ws ≡ 8

-- The same, of a record.
abbrev pub RecordInv : Shape → State → Type 0
RecordInv σ s = RecordPart σ (shape_of s) s.workers s.holders s.worker

-- ---- formatting

-- The cell lines before `place` are zeros.
pub record Zeroed (σ : Shape) (place : ℕ) (row : List ℕ) : Type 0 where
  -- the locations of those lines are zeros
  pub locations : (u : Location) → Has σ u → line_for u < place → view row u ≡ zeros
  -- so are their words 6 and 7
  pub spare : (i k : ℕ) → 1 ≤ i → i < place → 6 ≤ k → k < 8 → get_or row (line_start i + k) 0 ≡ 0

-- A format of a board of shape `σ` at its place.
pub record FormatInv (σ : Shape) (b : Board) : Type 0 where
  -- the state record
  pub own : RecordInv σ b.state
  -- no checkpoint is requested
  pub request : b.state.requested ≡ false
  -- the place is at most L+1
  pub within : b.state.place ≤ σ.lines + 1
  -- once its first step is taken, memory says that there is no board here
  pub epoch : 0 < b.state.place → epoch_of b.memory ≡ 0
  -- lines before the place are zeros in memory
  pub memory : Zeroed σ b.state.place b.memory
  -- and in the cache
  pub cache : Zeroed σ b.state.place b.cache

-- The machine beside a format.
pub record FormatMachine (r : Run) : Type 0 where
  -- the machine's last start was a format's
  pub formatting : r.machine.formatting ≡ true
  -- no request stands in it
  pub request : r.machine.requested ≡ false
  -- it has counted the steps to the place
  pub steps : r.machine.steps ≡ r.board.state.place
  -- once the first step is taken memory is erased
  pub erased : 0 < r.board.state.place → r.erased ≡ true

-- ---- recovering

-- What is known of a location at a recovery's place, by the step that is next.
abbrev pub AtPlace : UndoStep → Location → ℕ → ℕ → View → View → Type 0
AtPlace Restore u e x memory cache = logs u e memory ≡ true → logs u e cache ≡ true
AtPlace Unmark u e x memory cache = cache.value ≡ x
AtPlace WriteLine u e x memory cache = logs u e cache ≡ false

-- The locations at a recovery's place.
abbrev pub Here : Shape → UndoStep → ℕ → ℕ → (Location → ℕ) → List ℕ → List ℕ → Type 0
Here σ step place e xs memory cache = (u : Location) → Has σ u → place_of u ≡ place → AtPlace step u e (xs u) (view memory u) (view cache u)

-- What the state record of a recovery has, and the one that it ends in.
pub record Underway (σ : Shape) (s : State) : Type 0 where
  pub own : RecordInv σ s
  pub clean : s.dirty ≡ empty
  pub request : s.requested ≡ false
  pub free : s.worker ≡ all_free
  pub within : s.place < stops σ

-- A row of a board of shape `σ` in epoch `e` that undoes to the values `xs`.
pub record Whole (σ : Shape) (e : ℕ) (xs : Location → ℕ) (row : List ℕ) : Type 0 where
  pub sized : Sized σ row
  pub header : Header σ row
  pub epoch : epoch_of row ≡ e
  pub undoes : Undoes σ e xs row

-- The logs of a recovery that has come to `place`, in memory and in the cache.
pub record Logs (σ : Shape) (e place : ℕ) (memory cache : List ℕ) : Type 0 where
  pub passed_cache : (u : Location) → Has σ u → place_of u < place → logs u e (view cache u) ≡ false
  pub passed_memory : (u : Location) → Has σ u → place_of u < place → logs u e (view memory u) ≡ false
  pub ahead : (u : Location) → Has σ u → place < place_of u → logs u e (view memory u) ≡ true → logs u e (view cache u) ≡ true

-- The rows of a recovery that has come to `place`.
pub record Restoring (σ : Shape) (e : ℕ) (xs : Location → ℕ) (place : ℕ) (row row' : List ℕ) : Type 0 where
  pub memory : Whole σ e xs row
  pub cache : Whole σ e xs row'
  pub stamps : Logs σ e place row row'
  pub spare : SameSpare σ row row'

-- A recovery of a board of shape `σ`; `xs` are the checkpointed values.
pub record RecoveryInv (σ : Shape) (xs : Location → ℕ) (b : Board) : Type 0 where
  -- the state record
  pub underway : Underway σ b.state
  -- the sizes are memory's
  pub sizes : Own b.state.workers b.memory b.cache
  -- both rows undo to the values; what is logged in them, before the place and behind it
  pub rows : Restoring σ (epoch_of b.memory) xs b.state.place b.memory b.cache
  -- the locations at the place, by the step that is next
  pub here : Here σ b.state.undo b.state.place (epoch_of b.memory) xs b.memory b.cache

-- The machine beside a recovery.
pub record RecoveryMachine (m : Machine) : Type 0 where
  -- no request stands
  pub request : m.requested ≡ false
  -- the last start was a recovery's
  pub formatting : m.formatting ≡ false
  -- the current values are the checkpointed ones
  pub current : (u : Location) → m.current u ≡ m.checkpointed u
  -- no cell is marked
  pub marked : (u : Location) → m.marked u ≡ false
  -- no update is unfinished
  pub unfinished : (w : ℕ) → m.unfinished w ≡ none

-- ---- running

-- How many stores an update has left.
abbrev pub stores_left : Store → ℕ
stores_left Backup = 3
stores_left Mark = 2
stores_left Record = 1

-- What is known of the cell of an update before its next store.
abbrev pub BeforeStore : Store → ℕ → ℕ → View → Type 0
BeforeStore Backup c e v = logs (cell c) e v ≡ false
BeforeStore Mark c e v = (logs (cell c) e v ≡ false) × (v.old ≡ v.value)
BeforeStore Record c e v = logs (cell c) e v ≡ true

-- A worker's condition beside the machine's unfinished update.
abbrev pub WorkerInv : Shape → List ℕ → Condition → Unfinished → Type 0
WorkerInv σ cache Free u = u ≡ none
WorkerInv σ cache Waiting u = u ≡ none
WorkerInv σ cache Away u = u ≡ none
WorkerInv σ cache (Updating next c v) u = (u ≡ update (cell c) v (stores_left next)) × Has σ (cell c) × BeforeStore next c (epoch_of cache) (view cache (cell c))

-- The worker has an unfinished update of a location at place `p`.
abbrev pub Touches : Condition → ℕ → Type 0
Touches Free p = ⊥
Touches Waiting p = ⊥
Touches Away p = ⊥
Touches (Updating next c v) p = place_of (cell c) ≡ p

-- The condition of worker `w` among these.
abbrev pub condition_in : List Worker → ℕ → Condition
condition_in ws w = (get_or ws w free_worker).condition

-- The workers of a running board.
pub record WorkersPart (σ : Shape) (W : ℕ) (ws : List Worker) (cache : List ℕ) (unfinished : ℕ → Unfinished) : Type 0 where
  -- each worker's update is the machine's
  pub each : (w : ℕ) → w < W → WorkerInv σ cache (condition_in ws w) (unfinished w)
  -- two unfinished updates have two places
  pub apart : (w w' p : ℕ) → w < W → w' < W → Touches (condition_in ws w) p → Touches (condition_in ws w') p → w ≡ w'

-- The rows of a running board; `xs` are the checkpointed values, `ys` the current ones.
pub record RowsPart (σ : Shape) (w : ℕ) (xs ys : Location → ℕ) (memory cache : List ℕ) : Type 0 where
  -- the sizes are memory's
  pub sizes : Own w memory cache
  -- the cache has a good header
  pub header : Header σ cache
  -- the cache too gives the checkpointed values by memory's epoch, so a write-back of any line at any time does no harm
  pub undoes : Undoes σ (epoch_of memory) xs cache
  -- each value in the cache is the machine's current one
  pub current : (u : Location) → Has σ u → (view cache u).value ≡ ys u
  -- words 6 and 7 are memory's
  pub spare : SameSpare σ memory cache

-- The dirty lines are those with a marked cell.
pub record Dirty (σ : Shape) (words : List ℕ) (marked : Location → Bool) : Type 0 where
  -- the set has eight words
  pub eight : length words ≡ 8
  -- of 64 bits each
  pub small : Small words
  -- the bit of a line says whether one of its cells is marked
  pub lines : (i : ℕ) → i < σ.lines → contains words (suc i) ≡ marked (cell (2 * i)) || marked (cell (2 * i + 1))
  -- there is no other bit
  pub own : (i : ℕ) → contains words i ≡ true → (1 ≤ i) × (i ≤ σ.lines)

-- Every worker under W waits or is away.
abbrev pub AllQuiescent : State → Type 0
AllQuiescent s = (w : ℕ) → w < s.workers → quiescent (condition_of s w) ≡ true

-- Memory and cache have the same value of every location.
abbrev pub SameValues : Shape → List ℕ → List ℕ → Type 0
SameValues σ memory cache = (u : Location) → Has σ u → (view memory u).value ≡ (view cache u).value

-- Before the epoch's store.
pub record Early (σ : Shape) (b : Board) (m : Machine) : Type 0 where
  -- cache and memory have one epoch
  pub epochs : epoch_of b.cache ≡ epoch_of b.memory
  -- a location is marked in the machine where it is logged in this epoch
  pub marks : (u : Location) → Has σ u → m.marked u ≡ logs u (epoch_of b.memory) (view b.cache u)
  -- one not logged in this epoch has its value in memory
  pub clean : (u : Location) → Has σ u → logs u (epoch_of b.memory) (view b.cache u) ≡ false → (view b.memory u).value ≡ (view b.cache u).value
  -- and so has one whose line is not to be written any more
  pub written : (u : Location) → Has σ u → (Memᴰ (write_line (line_for u)) (acts b) → ⊥) → (view b.memory u).value ≡ (view b.cache u).value
  -- the epoch's store is to come, line 0's write-back and the release
  pub left : 3 ≤ length (acts b)
  -- once the first step is taken all workers wait or are away
  pub waiting : 0 < progress b.state → AllQuiescent b.state
  -- a requested checkpoint has an epoch to go to
  pub room : b.state.requested ≡ true → epoch_of b.cache ≡ last_epoch → ⊥

-- Between the epoch's store in the cache and line 0's write-back.
pub record Gap (σ : Shape) (b : Board) : Type 0 where
  -- a request stands
  pub request : b.state.requested ≡ true
  -- line 0's write-back is to come, and the release
  pub left : length (acts b) ≡ 2
  -- the cache is one epoch ahead of memory
  pub epochs : epoch_of b.cache ≡ epoch_of b.memory + 1
  -- every value is in memory
  pub same : SameValues σ b.memory b.cache
  -- all workers wait or are away
  pub waiting : AllQuiescent b.state

-- From line 0's write-back to the release.
pub record Late (σ : Shape) (b : Board) (m : Machine) : Type 0 where
  -- a request stands
  pub request : b.state.requested ≡ true
  -- the release is to come
  pub low : 1 ≤ length (acts b)
  -- and at most line 0's write-back before it, once more
  pub high : length (acts b) ≤ 2
  -- cache and memory have one epoch
  pub epochs : epoch_of b.cache ≡ epoch_of b.memory
  -- every value is in memory
  pub same : SameValues σ b.memory b.cache
  -- all workers wait or are away
  pub waiting : AllQuiescent b.state
  -- the checkpoint is complete
  pub complete : (u : Location) → Has σ u → m.checkpointed u ≡ m.current u
  -- no location is logged in the new epoch
  pub unlogged : (u : Location) → Has σ u → logs u (epoch_of b.memory) (view b.cache u) ≡ false

-- The stages of a checkpoint; where none is requested the board is early.
pub data Stage (σ : Shape) (b : Board) (m : Machine) : Type 0 where
  early : Early σ b m → Stage σ b m
  gap : Gap σ b → Stage σ b m
  late : Late σ b m → Stage σ b m

-- The checkpoint of a running board, requested or to come.
pub record CheckpointPart (σ : Shape) (b : Board) (m : Machine) : Type 0 where
  -- record and machine agree whether a request stands
  pub request : m.requested ≡ b.state.requested
  -- the dirty lines are those with a marked cell
  pub dirty : Dirty σ b.state.dirty m.marked
  -- the machine has counted the steps, but for those that are left
  pub steps : b.state.requested ≡ true → m.steps + length (acts b) ≡ marked_count m + 3
  -- the stage
  pub stage : Stage σ b m

-- A running board of shape `σ` beside the machine.
pub record RunningInv (σ : Shape) (b : Board) (m : Machine) : Type 0 where
  pub own : RecordInv σ b.state
  pub rows : RowsPart σ b.state.workers m.checkpointed m.current b.memory b.cache
  pub workers : WorkersPart σ b.state.workers b.state.worker b.cache m.unfinished
  pub checkpoint : CheckpointPart σ b m

-- ---- every run

-- What holds in each phase, from a start on and up to the next cut.
abbrev pub InPhase : Phase → Run → Type 0
InPhase Off r = ⊥
InPhase Formatting r = FormatInv r.machine.shape r.board × FormatMachine r
InPhase Recovering r = RecoveryInv r.machine.shape r.machine.checkpointed r.board × RecoveryMachine r.machine × (r.erased ≡ false)
InPhase Running r = RunningInv r.machine.shape r.board r.machine × (r.erased ≡ false)

-- The invariant.
pub record Inv (r : Run) : Type 0 where
  -- the rows have their lengths
  pub sizes : Lengths r.machine.shape r.board.memory r.board.cache
  -- in every phase memory gives the checkpointed values, or no format has finished since one began to erase it
  pub kept : r.erased ≡ false → Kept r.machine.shape r.machine.checkpointed r.board.memory
  -- a memory that is being erased says so
  pub lost : r.erased ≡ true → epoch_of r.board.memory ≡ 0
  -- what the phase adds, where no cut fell since the last taken start
  pub phase : r.crashed ≡ false → InPhase r.board.state.phase r
