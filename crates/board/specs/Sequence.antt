-- Document 01, "The simple machine", and document 02, ticket 4: histories of calls and power cuts, the board beside the machine. A call is known by its contract alone (`Performed`).
use Rattle.std.specs.Prelude.{ℕ, zero, suc, ◌+◌, ◌≡◌, List, Bool, true, false, cond, not, ◌&&◌, ◌||◌, eqb, length}
use Rattle.board.specs.declared.State.{State}
use Rattle.board.specs.declared.Call.{Call}
use Rattle.board.specs.declared.Call.TheVariants.{FormatStart, RecoveryStart, Step}
use Rattle.board.specs.Board.{Board, Shape, shaped, shape_in, epoch_of}
use Rattle.board.specs.Location.{Location, undo, stops, stop_at, undoes}
use Rattle.board.specs.Next.{kind, is_start, is_step, Performed}
use Rattle.board.specs.Quiet.{Quiet}
use Rattle.board.specs.Machine.{Machine, beginning, recovery_beginning, feed, format_steps, finishes_format}

-- ---- where a history begins

-- `Takes n b b'`: calls and quiet things lead from board `b` to board `b'`; `n` steps among them returned 0, the last call being the last of them, and no start did.
pub data Takes : ℕ → Board → Board → Type 0 where
  finished : {b : Board} → Takes zero b b
  steps : {n value : ℕ} {b d b' : Board} → Performed Step b 0 value d → Takes n d b' → Takes (suc n) b b'
  between : {n number value : ℕ} (k : Call) {b d b' : Board} → Performed k b number value d → (number ≡ 0 → is_start (kind k) || is_step (kind k) ≡ false) → Takes (suc n) d b' → Takes (suc n) b b'
  stays : {n : ℕ} {b d b' : Board} → Quiet b d → Takes (suc n) d b' → Takes (suc n) b b'

-- "A sequence begins with state and rows as a finished format left them, whatever they were before its start"; 02, ticket 4: or as a recovery's start left them that took the memory,
-- whatever memory, state and cache were: there the machine begins with the undo of that memory.
pub data Begins : Board → Machine → Type 0 where
  formatted : (l w value : ℕ) (b d b' : Board) → Performed (FormatStart l w) b 0 value d → Takes (format_steps l) d b' → Begins b' (beginning (shaped l))
  recovery_started : (value : ℕ) (b b' : Board) → Performed RecoveryStart b 0 value b' → Begins b' (recovery_beginning (shape_in b.memory) (undo b.memory))

-- ---- what can happen

-- The board beside the machine; whether a cut fell since the last taken start; whether a format took its first step and none has finished since.
pub record Run : Type 0 where
  pub board : Board
  pub machine : Machine
  pub crashed : Bool
  pub erased : Bool

-- The run at the beginning of a history.
abbrev pub opening : Board → Machine → Run
opening b m = record { board = b; machine = m; crashed = false; erased = false }

-- Whether the taken call leaves the memory between a format's first step and its last.
abbrev pub erased_by : Call → Machine → Bool → Bool
erased_by k m erased = cond (is_step (kind k) && m.formatting && not m.requested) (not (finishes_format m)) erased

-- After a call that returned 0 and left board `b`: the machine is fed it.
abbrev pub taken_call : Call → Board → Run → Run
taken_call k b r =
    record { board = b; machine = feed k r.machine; crashed = r.crashed && not (is_start (kind k)); erased = erased_by k r.machine r.erased }

-- After what the machine is not fed: a call that returned another number, since "turned-down calls change nothing", or a quiet thing.
abbrev pub unfed : Board → Run → Run
unfed b r = record { board = b; machine = r.machine; crashed = r.crashed; erased = r.erased }

-- After a call that returned `number` and left board `b`.
abbrev pub called : Call → ℕ → Board → Run → Run
called k number b r = cond (eqb number 0) (taken_call k b r) (unfed b r)

-- The board that a cut leaves: "any words in cache .. and any state record; memory stays".
abbrev pub cut_board : State → List ℕ → Board → Board
cut_board s cache b = record { state = s; memory = b.memory; cache = cache }

-- After a cut.
abbrev pub cut_run : State → List ℕ → Run → Run
cut_run s cache r =
    record { board = cut_board s cache r.board; machine = r.machine; crashed = true; erased = r.erased }

-- What a cut leaves of the cache has its length: "rows keep their lengths".
abbrev pub KeepsLength : List ℕ → Board → Type 0
KeepsLength cache b = length cache ≡ length b.cache

-- `Happens r r'`: a call leads from run `r` to run `r'`, where "after a cut its next taken call is a start of format or recovery"; or a quiet thing does, even after a cut; or a cut does.
pub data Happens : Run → Run → Type 0 where
  performs : {r : Run} (k : Call) (number value : ℕ) (b : Board) → Performed k r.board number value b → (r.crashed ≡ true → number ≡ 0 → is_start (kind k) ≡ true) → Happens r (called k number b r)
  stays : {r : Run} {b : Board} → Quiet r.board b → Happens r (unfed b r)
  cuts : {r : Run} (s : State) (cache : List ℕ) → KeepsLength cache r.board → Happens r (cut_run s cache r)

-- `History r`: from one of the two beginnings on, one thing after the other led to run `r`, "each call getting what the last one left and nobody else writing it".
pub data History : Run → Type 0 where
  begun : {b : Board} {m : Machine} → Begins b m → History (opening b m)
  further : {r r' : Run} → History r → Happens r r' → History r'

-- ---- the last completed checkpoint

-- Memory's epoch rose by one: a checkpoint is complete, or a format has finished.
abbrev pub rose : Run → Run → Bool
rose r r' = eqb (epoch_of r'.board.memory) (epoch_of r.board.memory + 1)

-- "the last checkpoint that board completed": the current values where memory's epoch last rose.
unfoldable pub last_checkpoint : {r : Run} → History r → Location → ℕ
last_checkpoint (begun {m = m} h) = m.current
last_checkpoint (further {r = r} {r' = r'} h e) = cond (rose r r') r'.machine.current (last_checkpoint h)

-- ---- a finished recovery

-- "a cell whose mark equals the epoch takes three steps, any other one": the steps for a recovery's stops under `n`.
unfoldable pub undo_steps : Shape → List ℕ → ℕ → ℕ
undo_steps σ row zero = 0
undo_steps σ row (suc n) = undo_steps σ row n + cond (undoes row (stop_at σ n)) 3 1

-- "all steps that memory at its taken start calls for".
abbrev pub recovery_steps : List ℕ → ℕ
recovery_steps row = undo_steps (shape_in row) row (stops (shape_in row))
