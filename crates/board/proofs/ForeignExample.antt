-- An inhabited example of 02's ticket 4: a memory that no call of ours wrote, taken, worked on, cut and recovered.
use Prim.Native.Nat.{ℕ}
use mathlib.Core.Path.{◌≡◌, refl}
use mathlib.Core.List.{List, [], ◌∷◌}
use native.Mathlib.Omega.{arith}
use lib.ListN.{get_or, replicate}
use Rattle.predicate.specs.Passing.{any_under, count_under, nth_from, nth_under, numbers_under}
use Rattle.bitset.specs.Words.{bits_in, bit_of, with_bit, contains, inserted as added, size, nth, strays}
use Rattle.locks.specs.Holders.{digit_of, unheld, holds as held, holds_any, held_from, with_digit}
use Rattle.line.specs.Line.{line_of, with_line}
use Rattle.line.specs.Cell.{field_index, field_of, with_field}
use Rattle.board.specs.declared.Call.{Call}
use Rattle.board.specs.declared.Call.TheVariants.{RecoveryStart, Step, Update, RestartPoint, Advance, Request, WriteBack, Read, TakeLock, GiveBackLock}
use Rattle.board.specs.Board.{Board, shape_in, lines_of}
use Rattle.board.specs.Causes.{bad_record, causes, first_standing, cause}
use Rattle.board.specs.Location.{cell, undo, changed_at}
use Rattle.board.specs.Effects.{recovery_step, perform_act, perform_first, step, advance, advance_of, effect}
use Rattle.board.specs.Checkpoint.{acts, stores_epoch}
use Rattle.board.specs.Next.{next, Performed}
use Rattle.board.specs.Machine.{Machine, recovery_beginning, changed, fewer, advanced, checkpoint_step, stepped, write_back_seen, feed}
use Rattle.board.specs.Sequence.{Begins, recovery_started, Run, opening, History, begun, undo_steps}
use Rattle.board.proofs.Laws.Taken.{performing}
use Rattle.board.proofs.Laws.Playing.{made, made_all, calls-history, by_kind, takes_test}
use Rattle.board.proofs.PlayedReads.{garbage, cut_and_played, PlayedRecovery, played-reads}

-- ---- the module

-- What the start finds beside the memory, and what each cut leaves, with a state record of no sense: words of no meaning in the cache.
any_cache : List ℕ
any_cache = replicate 16 99

-- Another kiosk's memory in epoch 41: cell 0 with record 5, cell 1 in the middle of an update with record 8, backup 6 and a mark of that epoch; words 6 and 7 of line 1 are 77 and 88.
foreign : Board
foreign = record { state = garbage; memory = 41 ∷ 1 ∷ 1 ∷ 0 ∷ 0 ∷ 0 ∷ 0 ∷ 0 ∷ 5 ∷ 4 ∷ 40 ∷ 8 ∷ 6 ∷ 41 ∷ 77 ∷ 88 ∷ []; cache = any_cache }

-- Recovery's start takes it.
start : Board
start = next RecoveryStart foreign

machine : Machine
machine = recovery_beginning (shape_in foreign.memory) (undo foreign.memory)

begins : Begins start machine
unfolding foreign start machine any_cache cause causes first_standing any_under field_index field_of count_under nth_from nth_under bits_in bit_of with_bit contains added size nth strays digit_of unheld held holds_any held_from with_digit
begins = recovery_started _ foreign start (performing RecoveryStart foreign refl refl refl)

-- ---- a cut in the first recovery

-- Cell 1's record is restored, and its line goes out with the mark.
cut_short : Run
cut_short = made_all (Step ∷ Step ∷ WriteBack 1 ∷ []) (opening start machine)

-- The board after the cut and a second recovery.
pub again : Board
again = cut_and_played cut_short garbage any_cache (replicate 4 Step)

cut-history : History cut_short
unfolding cut_short
cut-history = calls-history (Step ∷ Step ∷ WriteBack 1 ∷ []) (opening start machine) refl (begun begins)

cut-takes : PlayedRecovery cut_short garbage any_cache (replicate 4 Step) 4
unfolding cut_short start machine foreign any_cache made made_all takes_test by_kind undo_steps next cause causes first_standing bad_record any_under effect step recovery_step line_of with_line field_index field_of with_field feed stepped write_back_seen count_under nth_from nth_under bits_in bit_of with_bit contains added size nth strays digit_of unheld held holds_any held_from with_digit
cut-takes = record { same_length = refl; test = refl; count = refl }

cut-values : (lines_of cut_short.board.memory ≡ 1) × (cut_short.machine.checkpointed (cell 1) ≡ 6)
unfolding cut_short start machine foreign any_cache made made_all next cause causes first_standing bad_record any_under effect step recovery_step line_of with_line field_index field_of with_field feed stepped write_back_seen count_under nth_from nth_under bits_in bit_of with_bit contains added size nth strays digit_of unheld held holds_any held_from with_digit
cut-values = (refl, refl)

-- A read of cell 1 then returns 0 and gives 6, what undoing the module gives.
pub reads-undo : (number value : ℕ) (b : Board) → Performed (Read 1) again number value b → (number ≡ 0) × (value ≡ 6)
unfolding again
reads-undo = played-reads cut_short cut-history garbage any_cache (replicate 4 Step) 4 cut-takes 1 6 (omega (arith, cut-values.0)) cut-values.1

-- ---- worked on

-- The recovery ends; a checkpoint with 9 in cell 1 and restart point 3 goes to epoch 42; 12 in cell 1 goes out after it.
calls : List Call
calls =
    Step ∷ Step ∷ Step ∷ Step ∷ TakeLock 0 1 ∷ Update 0 1 9 ∷ Advance 0 ∷ Advance 0 ∷ Advance 0 ∷ GiveBackLock 0 1 ∷ Request ∷ RestartPoint 0 3 ∷ Advance 0 ∷ Advance 0 ∷ Advance 0
    ∷ Step ∷ Step ∷ Step ∷ Step ∷ TakeLock 0 1 ∷ Update 0 1 12 ∷ Advance 0 ∷ Advance 0 ∷ Advance 0 ∷ GiveBackLock 0 1 ∷ WriteBack 1 ∷ []

pub worked : Run
worked = made_all calls (opening start machine)

-- The board after the cut and its recovery.
pub recovered : Board
recovered = cut_and_played worked garbage any_cache (replicate 4 Step)

worked-history : History worked
unfolding worked
worked-history = calls-history calls (opening start machine) refl (begun begins)

worked-takes : PlayedRecovery worked garbage any_cache (replicate 4 Step) 4
unfolding worked calls start machine foreign any_cache made made_all takes_test by_kind undo_steps next cause causes first_standing bad_record any_under effect step recovery_step acts numbers_under perform_act perform_first stores_epoch advance advance_of line_of with_line field_index field_of with_field feed changed changed_at count_under fewer advanced checkpoint_step stepped write_back_seen nth_from nth_under bits_in bit_of with_bit contains added size nth strays digit_of unheld held holds_any held_from with_digit
worked-takes = record { same_length = refl; test = refl; count = refl }

-- At the cut 9 is checkpointed in cell 1, and words 6 and 7 of the module are still 77 and 88.
pub worked-values : (lines_of worked.board.memory ≡ 1) × (worked.machine.checkpointed (cell 1) ≡ 9) × (get_or worked.board.memory 14 0 ≡ 77) × (get_or worked.board.memory 15 0 ≡ 88)
unfolding worked calls start machine foreign any_cache made made_all next cause causes first_standing bad_record any_under effect step recovery_step acts numbers_under perform_act perform_first stores_epoch advance advance_of line_of with_line field_index field_of with_field feed changed changed_at count_under fewer advanced checkpoint_step stepped write_back_seen nth_from nth_under bits_in bit_of with_bit contains added size nth strays digit_of unheld held holds_any held_from with_digit
worked-values = (refl, refl, refl, refl)

-- A read of cell 1 then returns 0 and gives 9, the value of the last checkpoint.
pub reads-nine : (number value : ℕ) (b : Board) → Performed (Read 1) recovered number value b → (number ≡ 0) × (value ≡ 9)
unfolding recovered
reads-nine = played-reads worked worked-history garbage any_cache (replicate 4 Step) 4 worked-takes 1 9 (omega (arith, worked-values.0)) worked-values.1
