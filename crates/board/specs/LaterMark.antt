-- Document 02, ticket 4, the swapped module: what would go wrong on a memory that 14 turns down. `proofs/LaterMark.antt` proves it.
use Rattle.std.specs.Prelude.{ℕ, ◌+◌, ◌≡◌}
use Rattle.board.specs.declared.Condition.TheVariants.{Updating}
use Rattle.board.specs.declared.Store.TheVariants.{Record}
use Rattle.board.specs.declared.Call.TheVariants.{RecoveryStart, Update}
use Rattle.board.specs.Board.{Board, shape_in, epoch_of}
use Rattle.board.specs.State.{condition_of}
use Rattle.board.specs.Causes.{cause}
use Rattle.board.specs.Location as locations
use Rattle.board.specs.Location.{undo}
use Rattle.board.specs.Effects.{effect}
use Rattle.board.specs.Next.{Taken, next}
use Rattle.board.specs.Machine.{update, recovery_beginning, feed}
use Rattle.board.specs.Sequence.{Run, opening, taken_call, Happens}
use Rattle.board.specs.Statements.{ReadsCheckpointed, Recovered}

-- `Leads r r'`: one thing after the other leads from run `r` to run `r'`.
pub data Leads (r : Run) : Run → Type 0 where
  nothing : Leads r r
  onward : {q q' : Run} → Leads r q → Happens q q' → Leads r q'

-- The run that would begin if recovery's start did not look at the marks.
abbrev pub unguarded : Board → Run
unguarded b = opening (effect RecoveryStart b) (recovery_beginning (shape_in b.memory) (undo b.memory))

-- "One swapped module had cells marked later than its header's epoch; one checkpoint on, their updates go unlogged": a finished recovery then reads what no checkpoint held.
pub record LaterMark : Type 0 where
  -- a board that 14 alone turns down
  pub board : Board
  pub refused : cause RecoveryStart board ≡ 14
  -- one checkpoint on
  pub later : Run
  pub led : Leads (unguarded board) later
  pub checkpoint : epoch_of later.board.memory ≡ epoch_of board.memory + 1
  -- an update of a cell goes unlogged: the machine gives it three stores, the board its last one alone
  pub cell : ℕ
  pub value : ℕ
  pub begun : Taken (Update 0 cell value) later.board
  pub due : (feed (Update 0 cell value) later.machine).unfinished 0 ≡ update (locations.cell cell) value 3
  pub unlogged : condition_of (next (Update 0 cell value) later.board).state 0 ≡ Updating Record cell value
  -- after it a finished recovery does not read the last checkpoint
  pub run : Run
  pub updated : Leads (taken_call (Update 0 cell value) (next (Update 0 cell value) later.board) later) run
  pub left : Board
  pub recovered : Recovered run left
  pub wrong : ReadsCheckpointed run.machine left → ⊥
