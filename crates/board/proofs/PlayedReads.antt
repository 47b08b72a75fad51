-- What demand 3 gives of a played history, a cut and a played recovery: the value that a cell reads. The examples use it.
use Prim.Native.Nat.{ℕ, ◌<◌}
use mathlib.Core.Path.{◌≡◌, sym, subst, ◌∙◌}
use mathlib.Core.List.{List}
use mathlib.Core.Bool.{true, ◌&&◌}
use Rattle.board.specs.declared.State.{State}
use Rattle.board.specs.declared.Phase.TheVariants.{Running}
use Rattle.board.specs.declared.Call.{Call}
use Rattle.board.specs.declared.Call.TheVariants.{RecoveryStart, Read}
use Rattle.board.specs.Board.{Board, shaped, shape_in, cells}
use Rattle.board.specs.State.{started, dirtied}
use Rattle.board.specs.Location.{cell}
use Rattle.board.specs.Next.{taken, next, Performed}
use Rattle.board.specs.Sequence.{Run, cut_board, cut_run, KeepsLength, cuts, History, further, recovery_steps}
use Rattle.board.specs.Statements.{CutAndRecovered}
use Rattle.board.specs.Bench.{after_calls}
use Rattle.board.proofs.Laws.Playing.{takes_test, played-recovered}
use Rattle.board.proofs.Theorems.{demand3, recovered-sizes}

-- A state record of no sense, as a cut may leave it.
abbrev pub garbage : State
garbage = dirtied (dirtied (started Running (shaped 9) 200) 0) 300

-- The board after a cut and the calls of a recovery.
abbrev pub cut_and_played : Run → State → List ℕ → List Call → Board
cut_and_played r s cache ks = after_calls ks (next RecoveryStart (cut_board s cache r.board))

-- What a computed test says: the cache keeps its length, the recovery's start is taken, and among the calls after it all `n` steps that memory calls for.
pub record PlayedRecovery (r : Run) (s : State) (cache : List ℕ) (ks : List Call) (n : ℕ) : Type 0 where
  pub same_length : KeepsLength cache r.board
  pub test : taken RecoveryStart (cut_board s cache r.board) && takes_test n ks (next RecoveryStart (cut_board s cache r.board)) ≡ true
  pub count : recovery_steps r.board.memory ≡ n

-- By the theorem, and not by running it, a read of cell `c` then returns 0 and gives the checkpointed value.
pub played-reads : (r : Run) → History r → (s : State) (cache : List ℕ) (ks : List Call) (n : ℕ) → PlayedRecovery r s cache ks n → (c v : ℕ) →
    c < cells (shape_in r.board.memory) → r.machine.checkpointed (cell c) ≡ v →
    (number value : ℕ) (b : Board) → Performed (Read c) (cut_and_played r s cache ks) number value b → (number ≡ 0) × (value ≡ v)
played-reads r h s cache ks n played c v inside holds number value b p =
    let left = cut_and_played r s cache ks in
    let over = played-recovered (cut_run s cache r) ks n played.test played.count in
    let done : CutAndRecovered r left = record { state = s; cache = cache; same_length = played.same_length; recovered = over } in
    let lines = (recovered-sizes (cut_run s cache r) (further h (cuts s cache played.same_length)) left over).0 in
    let read = (demand3 r r h h left left done done).0 c (subst (λ (l : ℕ). c < cells (shaped l)) (sym lines) inside) number value b p in
    (read.0, read.1 ∙ holds)
