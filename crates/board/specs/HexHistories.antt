-- Document 02, ticket 9: "Reading text into a board's row ends what demands 2 and 3 promise, until the end of a format begun afterwards or, by ticket 4, a
-- recovery's start that takes the memory." `proofs/HexHistories/Theorems.antt` proves it.
use Rattle.std.specs.Prelude.{ℕ, ◌+◌, ◌≡◌, ◌⊎◌, List, true, false, length}
use Rattle.board.specs.declared.State.{State}
use Rattle.board.specs.declared.Call.TheVariants.{FormatStart, RecoveryStart, Read}
use Rattle.board.specs.Board.{Board, shaped, shape_in, epoch_of}
use Rattle.board.specs.State.{is_running}
use Rattle.board.specs.Location as locations
use Rattle.board.specs.Location.{Location, undo}
use Rattle.board.specs.Next.{lent, Performed}
use Rattle.board.specs.Hex.{parsed, read_bytes, words_of, HexReadPerformed}
use Rattle.board.specs.Machine.{Machine, beginning, recovery_beginning, format_steps}
use Rattle.board.specs.Sequence.{Takes, Begins, Run, opening, unfed, History, begun, further, rose}
use Rattle.board.specs.Statements.{ReadsAll, ReadsCheckpointed, Recovered, CutAndRecovered, ReadAlike}
use Rattle.board.specs.LaterMark.{Leads, nothing, onward}

-- ---- 1. what a beginning promises

-- Memory's epoch rose nowhere on the way: no checkpoint was completed, and no format finished.
unfoldable pub NoneCompleted : {r q : Run} → Leads r q → Type 0
NoneCompleted nothing = Unit {0}
NoneCompleted (onward {q = q} {q' = q'} l e) = NoneCompleted l × (rose q q' ≡ false)

-- What demands 2 and 3 promise from board `b` on, beside machine `m`.
pub record Promises (b : Board) (m : Machine) : Type 0 where
  -- a history begins
  pub begins : Begins b m
  -- and all that leads on is one: every statement on histories speaks of it
  pub history : (r : Run) → Leads (opening b m) r → History r
  -- demand 2: with no cut since the last taken start, a taken read gives the machine's current value
  pub reads :
      (r : Run) → Leads (opening b m) r → r.crashed ≡ false →
      (c value : ℕ) (d : Board) → Performed (Read c) r.board 0 value d → value ≡ r.machine.current (locations.cell c)
  -- demand 3: one more cut and a finished recovery read the last checkpoint
  pub recovers : (r : Run) → Leads (opening b m) r → (d : Board) → CutAndRecovered r d → ReadsCheckpointed r.machine d
  -- which, while none was completed, is what the machine began with
  pub first : (r : Run) (l : Leads (opening b m) r) → NoneCompleted l → (d : Board) → CutAndRecovered r d → ReadsAll m.current d
  -- and beside any other board of its size, a cell reads alike exactly where the last checkpoints are
  pub alike :
      (r s : Run) → Leads (opening b m) r → History s → (d e : Board) → CutAndRecovered r d → CutAndRecovered s e →
      d.state.lines ≡ e.state.lines → ReadAlike r.machine d s.machine e

-- ---- 2. where the promises begin anew

-- `TextRead b b'`: a taken reading of some text into memory or cache leads from board `b` to board `b'`. It is no event of a history.
pub data TextRead (b : Board) : Board → Type 0 where
  into_memory : (text left : List ℕ) → HexReadPerformed text b.memory 0 left → TextRead b (lent b.state left b.cache)
  into_cache : (text left : List ℕ) → HexReadPerformed text b.cache 0 left → TextRead b (lent b.state b.memory left)

-- "a recovery's start that takes the memory", whatever state record and cache are: the words are the text's, and the promises begin with their own undo.
abbrev pub MemoryRead : Type 0
MemoryRead =
    (text row left : List ℕ) → HexReadPerformed text row 0 left →
    (s : State) (cache : List ℕ) (value : ℕ) (b : Board) → Performed RecoveryStart (lent s left cache) 0 value b →
    (left ≡ words_of (length row) (read_bytes (parsed text))) × Promises b (recovery_beginning (shape_in left) (undo left))

-- That recovery itself, once it is finished, reads the undo of the text's words in every cell.
abbrev pub MemoryRecovered : Type 0
MemoryRecovered =
    (text row left : List ℕ) → HexReadPerformed text row 0 left →
    (r : Run) → r.board.memory ≡ left → (b : Board) → Recovered r b → ReadsAll (undo left) b

-- The same start after a reading into memory or cache: the promises begin with the undo of the memory that it takes, whatever the cache holds.
abbrev pub BeginsByRecovery : Type 0
BeginsByRecovery =
    (b d : Board) → TextRead b d → (value : ℕ) (b' : Board) → Performed RecoveryStart d 0 value b' →
    Promises b' (recovery_beginning (shape_in d.memory) (undo d.memory))

-- "the end of a format begun afterwards": the promises begin with zeros.
abbrev pub BeginsByFormat : Type 0
BeginsByFormat =
    (b d : Board) → TextRead b d → (l w value : ℕ) (start b' : Board) → Performed (FormatStart l w) d 0 value start → Takes (format_steps l) start b' →
    Promises b' (beginning (shaped l))

-- ---- 3. what a reading ends

-- "a format begun afterwards": one begun before the reading does not count. All its steps are taken, a text is read into memory between them, and the board
-- runs; but a recovery then does not read zeros alone.
pub record FormatBefore : Type 0 where
  -- a format's start and some of its steps
  pub lines : ℕ
  pub workers : ℕ
  pub value : ℕ
  pub board : Board
  pub start : Board
  pub begun : Performed (FormatStart lines workers) board 0 value start
  pub early : ℕ
  pub middle : Board
  pub some : Takes early start middle
  -- a taken reading into memory
  pub text : List ℕ
  pub words : List ℕ
  pub read : HexReadPerformed text middle.memory 0 words
  -- the format's other steps
  pub late : ℕ
  pub end : Board
  pub others : Takes late (lent middle.state words middle.cache) end
  pub all : early + late ≡ format_steps lines
  pub running : is_running end.state.phase ≡ true
  -- a cut, and a finished recovery that does not read what a finished format promises
  pub left : Board
  pub recovered : CutAndRecovered (opening end (beginning (shaped lines))) left
  pub wrong : ReadsCheckpointed (beginning (shaped lines)) left → ⊥
  -- so no history begins there
  pub no_history : History (opening end (beginning (shaped lines))) → ⊥

-- The location had the value at the history's beginning or where memory's epoch rose: some checkpoint held it.
unfoldable pub HeldOnce : {r : Run} → History r → Location → ℕ → Type 0
HeldOnce (begun {m = m} h) u v = m.current u ≡ v
HeldOnce (further {r = r} {r' = r'} h e) u v = HeldOnce h u v ⊎ ((rose r r' ≡ true) × (r'.machine.current u ≡ v))

-- A reading in the middle of a history ends its promises: a text is read into memory, and after a cut a finished recovery reads what no checkpoint held.
pub record ReadInHistory : Type 0 where
  -- a running board in its second epoch
  pub run : Run
  pub reached : History run
  pub uncut : run.crashed ≡ false
  pub running : is_running run.board.state.phase ≡ true
  pub checkpoint : epoch_of run.board.memory ≡ 2
  -- a taken reading into memory
  pub text : List ℕ
  pub words : List ℕ
  pub read : HexReadPerformed text run.board.memory 0 words
  -- a cut and a finished recovery
  pub left : Board
  pub recovered : CutAndRecovered (unfed (lent run.board.state words run.board.cache) run) left
  -- a cell of it reads what no checkpoint held
  pub cell : ℕ
  pub value : ℕ
  pub reads : (number v : ℕ) (b : Board) → Performed (Read cell) left number v b → (number ≡ 0) × (v ≡ value)
  pub never : HeldOnce reached (locations.cell cell) value → ⊥
  -- so the reading carries no history on
  pub no_history : History (unfed (lent run.board.state words run.board.cache) run) → ⊥

-- A reading into the cache ends them too: a read, taken with no cut since the last start, gives another value than the machine's current one.
pub record CacheReadInHistory : Type 0 where
  pub run : Run
  pub reached : History run
  pub uncut : run.crashed ≡ false
  -- a taken reading into the cache
  pub text : List ℕ
  pub words : List ℕ
  pub read : HexReadPerformed text run.board.cache 0 words
  -- a taken read of a cell
  pub cell : ℕ
  pub value : ℕ
  pub left : Board
  pub seen : Performed (Read cell) (lent run.board.state run.board.memory words) 0 value left
  pub wrong : value ≡ run.machine.current (locations.cell cell) → ⊥
  -- so the reading carries no history on
  pub no_history : History (unfed (lent run.board.state run.board.memory words) run) → ⊥

-- ---- 4. the ticket's sentence

-- A reading ends what demands 2 and 3 promise. A recovery's start that takes the memory begins it anew, and so does the end of a format begun afterwards,
-- but not of one begun before.
pub record ReadingEndsPromises : Type 0 where
  pub memory_read : MemoryRead
  pub memory_recovered : MemoryRecovered
  pub by_recovery : BeginsByRecovery
  pub by_format : BeginsByFormat
  pub format_before : FormatBefore
  pub in_history : ReadInHistory
  pub cache_in_history : CacheReadInHistory
