-- What is claimed of the board over whole histories, each claim as a type. `proofs/Theorems.antt` proves every one. DEMAND 3 is `Demand3`.
use Rattle.std.specs.Prelude.{ℕ, zero, suc, ◌+◌, ◌*◌, ◌/◌, ◌≤◌, ◌<◌, ◌≡◌, ◌⊎◌, ◌↔◌, List, Bool, true, false, cond, ◌&&◌, ◌||◌, eqb, get_or, set}
use Rattle.line.specs.Line.{line_start}
use Rattle.board.specs.declared.State.{State}
use Rattle.board.specs.declared.Call.{Call}
use Rattle.board.specs.declared.Condition.TheVariants.{Free, Waiting, Away}
use Rattle.board.specs.declared.Call.TheVariants.{FormatStart, RecoveryStart, Step, Update, RestartPoint, Advance, Request, WriteBack, Read, GoAway, ComeBack}
use Rattle.board.specs.declared.Phase.{Phase}
use Rattle.board.specs.Board.{Board, Shape, shaped, shape_of, shape_in, cell_lines, cells, epoch_of, lines_of, workers_of, last_epoch}
use Rattle.locks.specs.Holders.{holds}
use Rattle.board.specs.State.{condition_of, is_formatting, is_recovering, is_running, dirty_count}
use Rattle.board.specs.Location.{Location, cell, Has, undo}
use Rattle.board.specs.Effects.{written_back}
use Rattle.board.specs.Next.{Taken, next, Kind, starts_format, starts_recovery, stepping, writing, counting, other, reading, kind, is_step, Performed}
use Rattle.board.specs.Machine.{Machine, beginning, recovery_beginning, format_steps}
use Rattle.board.specs.Sequence.{Takes, Begins, Run, cut_run, KeepsLength, Happens, performs, stays, cuts, History, begun, further, last_checkpoint, recovery_steps}

-- ---- 1. reads

-- DEMAND 2: "from a finished format on, a read agrees with the simple machine", and (02, ticket 4) from a recovery's start that took the memory: a read that
-- returns 0, with no cut since the last taken start, gives the machine's current value.
abbrev pub Reads : Type 0
Reads =
    (r : Run) → History r → r.crashed ≡ false →
    (c value : ℕ) (b : Board) → Performed (Read c) r.board 0 value b → value ≡ r.machine.current (cell c)

-- ---- 2. recovery

-- Every cell's read on board `b` returns 0 and gives the cell's value among those given.
abbrev pub ReadsAll : (Location → ℕ) → Board → Type 0
ReadsAll values b =
    (c : ℕ) → c < cells (shape_of b.state) →
    (number value : ℕ) (b' : Board) → Performed (Read c) b number value b' → (number ≡ 0) × (value ≡ values (cell c))

-- Every cell's read on board `b` returns 0 and gives the value checkpointed in machine `m`.
abbrev pub ReadsCheckpointed : Machine → Board → Type 0
ReadsCheckpointed m b = ReadsAll m.checkpointed b

-- The board `b` is what a finished recovery left that was started in run `r`: its start returned 0, and so did all steps that memory called for, other calls
-- among them.
pub record Recovered (r : Run) (b : Board) : Type 0 where
  pub value : ℕ
  pub start : Board
  pub begun : Performed RecoveryStart r.board 0 value start
  pub ended : Takes (recovery_steps r.board.memory) start b

-- After any history, a cut at its end or none ("a recovery start in mid-work is a cut"), a finished recovery reads the values of the last completed
-- checkpoint.
abbrev pub Recovery : Type 0
Recovery = (r : Run) → History r → (b : Board) → Recovered r b → ReadsCheckpointed r.machine b

-- One more cut, which may leave anything in cache and state record, and a finished recovery.
pub record CutAndRecovered (r : Run) (b : Board) : Type 0 where
  pub state : State
  pub cache : List ℕ
  pub same_length : KeepsLength cache r.board
  pub recovered : Recovered (cut_run state cache r) b

-- A cell reads alike on two boards exactly when its values among those given are equal.
abbrev pub AlikeWhere : (Location → ℕ) → Board → (Location → ℕ) → Board → Type 0
AlikeWhere values b others d =
    (c : ℕ) → c < cells (shape_of b.state) →
    (p q v u : ℕ) (b' d' : Board) → Performed (Read c) b p v b' → Performed (Read c) d q u d' → (v ≡ u) ↔ (values (cell c) ≡ others (cell c))

-- A cell reads alike on two boards exactly when the values checkpointed in their machines are equal.
abbrev pub ReadAlike : Machine → Board → Machine → Board → Type 0
ReadAlike m b n d = AlikeWhere m.checkpointed b n.checkpointed d

-- DEMAND 3: two boards, each begun by a finished format or by a recovery's start that took its memory, with any history of calls and cuts, one more cut and
-- a finished recovery. Then every cell reads what
-- the simple machine held at the last completed checkpoint; and where the boards are of one size, a cell reads alike exactly when those values are equal.
abbrev pub Demand3 : Type 0
Demand3 =
    (r s : Run) → History r → History s →
    (b d : Board) → CutAndRecovered r b → CutAndRecovered s d →
    ReadsCheckpointed r.machine b × ReadsCheckpointed s.machine d × (b.state.lines ≡ d.state.lines → ReadAlike r.machine b s.machine d)

-- The values checkpointed in the machine are the current ones where memory's epoch last rose.
abbrev pub LastCheckpoint : Type 0
LastCheckpoint = (r : Run) (h : History r) (u : Location) → Has r.machine.shape u → last_checkpoint h u ≡ r.machine.checkpointed u

-- DEMAND 3 once more, with nothing left to compose: every cell reads its current value where memory's epoch last rose in that board's history, and boards of
-- one size read alike exactly where those are equal.
abbrev pub Demand3ByCheckpoints : Type 0
Demand3ByCheckpoints =
    (r s : Run) (h : History r) (k : History s) →
    (b d : Board) → CutAndRecovered r b → CutAndRecovered s d →
    ReadsAll (last_checkpoint h) b × ReadsAll (last_checkpoint k) d × (b.state.lines ≡ d.state.lines → AlikeWhere (last_checkpoint h) b (last_checkpoint k) d)

-- The L of board and machine is the header's, and so are the state record's L and W, from a start on and up to the next cut, unless a format has begun to
-- erase.
pub record OwnSizes (r : Run) : Type 0 where
  pub header : lines_of r.board.memory ≡ r.machine.shape.lines
  pub lines : r.crashed ≡ false → is_formatting r.board.state.phase ≡ false → r.board.state.lines ≡ lines_of r.board.memory
  pub workers : r.crashed ≡ false → is_formatting r.board.state.phase ≡ false → r.board.state.workers ≡ workers_of r.board.memory

abbrev pub HeaderSizes : Type 0
HeaderSizes = (r : Run) → History r → r.erased ≡ false → OwnSizes r

-- L and W survive a recovery: the record's are then those of the header that it was started on.
abbrev pub RecoveredSizes : Type 0
RecoveredSizes =
    (r : Run) → History r → (b : Board) → Recovered r b → (b.state.lines ≡ lines_of r.board.memory) × (b.state.workers ≡ workers_of r.board.memory)

-- ---- 3. completion

-- What happens is a taken step of a format.
unfoldable pub format_step_in : {r r' : Run} → Happens r r' → Bool
format_step_in (performs {r = r} k number value b p a) = eqb number 0 && is_step (kind k) && is_formatting r.board.state.phase
format_step_in (stays q) = false
format_step_in (cuts s cache p) = false

-- Words 6 and 7 of every cell line of a row are the given ones.
abbrev pub Spare : Shape → (ℕ → ℕ) → List ℕ → Type 0
Spare σ given row = (l k : ℕ) → 1 ≤ l → l ≤ cell_lines σ → 6 ≤ k → k < 8 → get_or row (line_start l + k) 0 ≡ given (line_start l + k)

-- They are the same in two rows.
abbrev pub SameSpare : Shape → List ℕ → List ℕ → Type 0
SameSpare σ row row' = Spare σ (λ i. get_or row i 0) row'

-- The board keeps its size, L and every header word in memory but the epoch, and words 6 and 7 of memory's cell lines.
pub record SameBoard (r r' : Run) : Type 0 where
  pub shape : r'.machine.shape ≡ r.machine.shape
  pub header : (k : ℕ) → 0 < k → k < 8 → get_or r'.board.memory k 0 ≡ get_or r.board.memory k 0
  pub spare : SameSpare r.machine.shape r.board.memory r'.board.memory

-- Neither memory's epoch nor any checkpointed value has changed.
pub record Unchanged (r r' : Run) : Type 0 where
  pub board : SameBoard r r'
  pub epoch : epoch_of r'.board.memory ≡ epoch_of r.board.memory
  pub values : (u : Location) → Has r.machine.shape u → r'.machine.checkpointed u ≡ r.machine.checkpointed u

-- Memory has the next epoch, and the checkpointed values are the current ones, which stay.
pub record Completed (r r' : Run) : Type 0 where
  pub board : SameBoard r r'
  pub epoch : epoch_of r'.board.memory ≡ epoch_of r.board.memory + 1
  pub values : (u : Location) → Has r.machine.shape u → r'.machine.checkpointed u ≡ r.machine.current u
  pub current : (u : Location) → Has r.machine.shape u → r'.machine.current u ≡ r.machine.current u

-- A format's step leaves words 6 and 7 of memory's cell lines, but that those of the line at its place become 0.
abbrev pub ErasedSpare : Run → Run → Type 0
ErasedSpare r r' = Spare r.machine.shape (λ i. cond (eqb (i / 8) r.board.state.place) 0 (get_or r.board.memory i 0)) r'.board.memory

-- A format's step that is not its last: memory's epoch is 0 from then on, and the machine keeps its values.
pub record Erasing (r r' : Run) : Type 0 where
  pub shape : r'.machine.shape ≡ r.machine.shape
  pub epoch : epoch_of r'.board.memory ≡ 0
  pub values : (u : Location) → Has r.machine.shape u → r'.machine.checkpointed u ≡ r.machine.checkpointed u
  pub spare : ErasedSpare r r'

-- A format's last step: memory's epoch is 1, and all values are 0.
pub record Formatted (r r' : Run) : Type 0 where
  pub shape : r'.machine.shape ≡ r.machine.shape
  pub before : epoch_of r.board.memory ≡ 0
  pub epoch : epoch_of r'.board.memory ≡ 1
  pub values : (u : Location) → r'.machine.checkpointed u ≡ 0
  pub current : (u : Location) → r'.machine.current u ≡ 0
  pub spare : ErasedSpare r r'

-- What becomes of the last checkpoint, by whether a format's step happens.
abbrev pub Completes : Bool → Run → Run → Type 0
Completes false r r' = Unchanged r r' ⊎ Completed r r'
Completes true r r' = Erasing r r' ⊎ Formatted r r'

-- "the checkpoint is complete" in the machine exactly when the new epoch's number is in memory; a format's steps say 'no board here' until the last.
abbrev pub Completion : Type 0
Completion = (r r' : Run) → History r → (e : Happens r r') → Completes (format_step_in e) r r'

-- ---- 4. progress

-- `n` steps one after the other.
unfoldable pub steps_from : ℕ → Board → Board
steps_from zero b = b
steps_from (suc n) b = steps_from n (next Step b)

-- Each of `n` steps is taken.
unfoldable pub AllTaken : ℕ → Board → Type 0
AllTaken zero b = Unit {0}
AllTaken (suc n) b = Taken Step b × AllTaken n (next Step b)

-- Undisturbed, `n` steps are taken, and then the board runs with no request.
abbrev pub EndsIn : ℕ → Board → Type 0
EndsIn n b = AllTaken n b × (is_running (steps_from n b).state.phase ≡ true) × ((steps_from n b).state.requested ≡ false)

-- Each format that is started ends in L+2 steps.
abbrev pub FormatEnds : Type 0
FormatEnds = (l w : ℕ) (b : Board) → Taken (FormatStart l w) b → EndsIn (format_steps l) (next (FormatStart l w) b)

-- Each recovery that is started ends in the steps that its memory calls for.
abbrev pub RecoveryEnds : Type 0
RecoveryEnds = (b : Board) → Taken RecoveryStart b → EndsIn (recovery_steps b.memory) (next RecoveryStart b)

-- Every worker under W waits or is away.
abbrev pub AllWaitOrAway : State → Type 0
AllWaitOrAway s = (w : ℕ) → w < s.workers → (condition_of s w ≡ Waiting) ⊎ (condition_of s w ≡ Away)

-- "that is n+3 steps": a requested checkpoint ends once all workers under W wait or are away.
abbrev pub CheckpointEnds : Type 0
CheckpointEnds =
    (r : Run) → History r → r.crashed ≡ false → is_running r.board.state.phase ≡ true → r.board.state.requested ≡ true → r.board.state.place ≡ 0 →
    AllWaitOrAway r.board.state → EndsIn (dirty_count r.board.state + 3) r.board

-- Of the eight workers those that were away are away, and the others are free.
abbrev pub KeepsAway : State → State → Type 0
KeepsAway s s' = (w : ℕ) → w < 8 → (condition_of s w ≡ Away → condition_of s' w ≡ Away) × ((condition_of s w ≡ Away → ⊥) → condition_of s' w ≡ Free)

-- 02, ticket 2: a worker that is away holds up no checkpoint. With a request standing and every worker under W waiting or away the checkpoint ends in n+3
-- steps, those taken already
-- among them; those that were away are away after it.
abbrev pub AwayHoldsUpNone : Type 0
AwayHoldsUpNone =
    (r : Run) → History r → r.crashed ≡ false → is_running r.board.state.phase ≡ true → r.board.state.requested ≡ true →
    AllWaitOrAway r.board.state →
    (left : ℕ) → r.board.state.place + left ≡ dirty_count r.board.state + 3 →
    EndsIn left r.board × KeepsAway r.board.state (steps_from left r.board).state

-- Worker `w` holds none of the 16 locks.
abbrev pub HoldsNone : State → ℕ → Type 0
HoldsNone s w = (k : ℕ) → k < 16 → holds s.holders w k ≡ false

-- 02, ticket 2: a running board lets worker `w` go away exactly where it is free and (ticket 6) holds no lock, and come back exactly where it is away and no
-- step of a requested checkpoint was taken; nothing else turns them down.
abbrev pub GoesAndComes : Type 0
GoesAndComes =
    (r : Run) → History r → r.crashed ≡ false → is_running r.board.state.phase ≡ true → (w : ℕ) →
    (Taken (GoAway w) r.board ↔ ((w < r.board.state.workers) × (condition_of r.board.state w ≡ Free) × HoldsNone r.board.state w))
    × (Taken (ComeBack w) r.board ↔ ((w < r.board.state.workers) × (condition_of r.board.state w ≡ Away) × (r.board.state.requested ≡ true → r.board.state.place ≡ 0)))

-- After any history a recovery can be started, unless a format took its first step and none has finished since.
abbrev pub RecoveryStarts : Type 0
RecoveryStarts = (r : Run) → History r → r.erased ≡ false → Taken RecoveryStart r.board

-- 02, ticket 4: a board's own memory is never turned down by 14: after any history a recovery's start returns 0, or 5 where a format took its first step and
-- none has finished since.
abbrev pub OwnMemory : Type 0
OwnMemory = (r : Run) → History r → (number value : ℕ) (b : Board) → Performed RecoveryStart r.board number value b → number ≡ cond r.erased 5 0

-- A history may begin in epoch 2^64 − 1, and a checkpoint may lead to it: while no request stands, a running board takes a request, but turns it down by 11
-- where memory's epoch is that one.
abbrev pub RequestAnswers : Type 0
RequestAnswers =
    (r : Run) → History r → r.crashed ≡ false → is_running r.board.state.phase ≡ true → r.board.state.requested ≡ false →
    (number value : ℕ) (b : Board) → Performed Request r.board number value b → number ≡ cond (eqb (epoch_of r.board.memory) last_epoch) 11 0

-- "Write-back needs recovering or running": such a board takes it exactly of lines 0 to L, and nothing else turns it down.
abbrev pub WriteBackAnswers : Type 0
WriteBackAnswers =
    (r : Run) → History r → r.crashed ≡ false → is_recovering r.board.state.phase || is_running r.board.state.phase ≡ true →
    (l : ℕ) → Taken (WriteBack l) r.board ↔ (l ≤ r.board.state.lines)

-- A running board reads exactly the cells that it has: nothing else turns a read down.
abbrev pub ReadAnswers : Type 0
ReadAnswers =
    (r : Run) → History r → r.crashed ≡ false → is_running r.board.state.phase ≡ true →
    (c : ℕ) → Taken (Read c) r.board ↔ (c < 2 * r.board.state.lines)

-- There are both beginnings: where a format's start is taken there is a finished format, and where a recovery's is taken a history begins at once.
abbrev pub HistoryBegins : Type 0
HistoryBegins =
    ((l w : ℕ) (b : Board) → Taken (FormatStart l w) b → (b' : Board) × Begins b' (beginning (shaped l)))
    × ((b : Board) → Taken RecoveryStart b → Begins (next RecoveryStart b) (recovery_beginning (shape_in b.memory) (undo b.memory)))

-- After any history there is a finished recovery, unless a format took its first step and none has finished since.
abbrev pub HasRecovery : Type 0
HasRecovery = (r : Run) → History r → r.erased ≡ false → (b : Board) × Recovered r b

-- An update of cell `c` was started by worker `w`, or a restart point, of its own cell.
pub data Starts (w c v : ℕ) : Call → Type 0 where
  updates : Starts w c v (Update w c v)
  restarts : c ≡ w → Starts w c v (RestartPoint w v)

-- The advances of worker `w` are taken, one after the other, and lead to board `b'`.
pub data Advances (w : ℕ) : ℕ → Board → Board → Type 0 where
  over : {b : Board} → Advances w zero b b
  advances : {n value : ℕ} {b d b' : Board} → Performed (Advance w) b 0 value d → Advances w n d b' → Advances w (suc n) b b'

-- An update ends: undisturbed, as many advances as its start gave it are taken; then the worker is free or waiting, and a read gives the value.
abbrev pub UpdateEnds : Type 0
UpdateEnds =
    (r : Run) → History r → r.crashed ≡ false →
    (w c v : ℕ) (k : Call) → Starts w c v k → (value : ℕ) (b : Board) → Performed k r.board 0 value b →
    (b' : Board) × (Advances w (cond (r.machine.marked (cell c)) 1 3) b b' × ((condition_of b'.state w ≡ Free) ⊎ (condition_of b'.state w ≡ Waiting)) × Performed (Read c) b' 0 v b')

-- ---- 5. single stores

-- "One call does at most one store to a line or one line write-back".
pub data OneStore (b b' : Board) : Type 0 where
  no_store : b'.memory ≡ b.memory → b'.cache ≡ b.cache → OneStore b b'
  one_word : (i v : ℕ) → b'.memory ≡ b.memory → b'.cache ≡ set b.cache i v → OneStore b b'
  one_line : (l : ℕ) → b'.memory ≡ written_back l b → b'.cache ≡ b.cache → OneStore b b'

-- "except in format steps and at recovery's start".
abbrev pub several : Kind → Phase → Bool
several starts_format phase = false
several starts_recovery phase = true
several stepping phase = is_formatting phase
several writing phase = false
several counting phase = false
several other phase = false
several (reading c) phase = false

-- A taken call other than those stores at most one word of the cache or one line of memory.
abbrev pub SingleStores : Type 0
SingleStores = (k : Call) (b : Board) → Taken k b → several (kind k) b.state.phase ≡ false → OneStore b (next k b)

-- Word `i` of memory as the history found it at its beginning, but 0 from a format's step of its line on.
unfoldable pub as_begun : {r : Run} → History r → ℕ → ℕ
as_begun (begun {b = b} h) i = get_or b.memory i 0
as_begun (further {r = r} h e) i = cond (format_step_in e && eqb (i / 8) r.board.state.place) 0 (as_begun h i)

-- "Words 6 and 7 are never changed": in memory always, in the cache while recovering or running.
abbrev pub SpareWords : Type 0
SpareWords =
    (r : Run) (h : History r) → Spare r.machine.shape (as_begun h) r.board.memory ×
    (r.crashed ≡ false → is_formatting r.board.state.phase ≡ false → Spare r.machine.shape (as_begun h) r.board.cache)

-- After a finished format they are 0.
abbrev pub FormatSpare : Type 0
FormatSpare =
    (l w value : ℕ) (b d b' : Board) → Performed (FormatStart l w) b 0 value d → Takes (format_steps l) d b' → Spare (shaped l) (λ i. 0) b'.memory × Spare (shaped l) (λ i. 0) b'.cache
