-- An inhabited example of 02's ticket 2: a checkpoint is completed while a worker is away; a second one is cut in the middle while all are.
use Prim.Native.Nat.{ℕ}
use mathlib.Core.Path.{◌≡◌, refl}
use mathlib.Core.List.{List, [], ◌∷◌}
use mathlib.Core.Bool.{false}
use native.Mathlib.Omega.{arith}
use lib.ListN.{replicate}
use Rattle.predicate.specs.Passing.{any_under, count_under, nth_from, nth_under, numbers_under}
use Rattle.bitset.specs.Words.{bits_in, bit_of, with_bit, contains, inserted as added, size, nth, strays}
use Rattle.locks.specs.Holders.{digit_of, unheld, holds as held, holds_any, held_from, with_digit}
use Rattle.line.specs.Line.{line_of, with_line}
use Rattle.line.specs.Cell.{field_index, field_of, with_field}
use Rattle.board.specs.declared.Condition.TheVariants.{Away}
use Rattle.board.specs.declared.Call.{Call}
use Rattle.board.specs.declared.Call.TheVariants.{FormatStart, Step, Update, RestartPoint, Advance, Request, Read, GoAway, ComeBack, TakeLock, GiveBackLock}
use Rattle.board.specs.Board.{Board, shaped, lines_of}
use Rattle.board.specs.State.{condition_of}
use Rattle.board.specs.Causes.{bad_record, causes, first_standing, cause}
use Rattle.board.specs.Location.{cell, changed_at}
use Rattle.board.specs.Effects.{format_step, recovery_step, perform_act, perform_first, step, advance, advance_of, effect}
use Rattle.board.specs.Checkpoint.{acts, stores_epoch}
use Rattle.board.specs.Next.{next, Performed}
use Rattle.board.specs.Machine.{beginning, changed, fewer, advanced, checkpoint_step, stepped, feed}
use Rattle.board.specs.Sequence.{Begins, formatted, Run, opening, History, begun, undo_steps}
use Rattle.board.specs.Bench.{blank_for, after_calls}
use Rattle.board.proofs.Laws.Taken.{performing}
use Rattle.board.proofs.Laws.Playing.{made, made_all, calls-history, by_kind, takes_test, tested}
use Rattle.board.proofs.PlayedReads.{garbage, cut_and_played, PlayedRecovery, played-reads}

-- The board as the format (2, 2) left it.
fresh : Board
fresh = after_calls (FormatStart 2 2 ∷ Step ∷ Step ∷ Step ∷ Step ∷ []) (blank_for 2)

-- Worker 1 goes away. Worker 0 puts 7 into cell 2 and makes a restart point, and the checkpoint of their two lines ends in five steps without worker 1.
first : List Call
first =
    GoAway 1 ∷ TakeLock 0 2 ∷ Update 0 2 7 ∷ Advance 0 ∷ Advance 0 ∷ Advance 0 ∷ GiveBackLock 0 2 ∷ Request ∷ RestartPoint 0 3 ∷ Advance 0 ∷ Advance 0 ∷ Advance 0
    ∷ Step ∷ Step ∷ Step ∷ Step ∷ Step ∷ []

-- Worker 1, away still, comes back and puts 9 into cell 2; while it holds the lock it is not let go. Both go away; a second checkpoint writes the cell's line, and worker 1 is not let back.
second : List Call
second = ComeBack 1 ∷ TakeLock 1 2 ∷ Update 1 2 9 ∷ Advance 1 ∷ Advance 1 ∷ Advance 1 ∷ GoAway 1 ∷ GiveBackLock 1 2 ∷ GoAway 1 ∷ Request ∷ GoAway 0 ∷ Step ∷ ComeBack 1 ∷ []

-- The run after the first checkpoint, and the run that the history leads to.
midway : Run
midway = made_all first (opening fresh (beginning (shaped 2)))

pub run : Run
run = made_all second midway

-- What the cut leaves in the cache.
cut_cache : List ℕ
cut_cache = replicate 24 77

-- The recovery's calls, and the board after them.
recovery_calls : List Call
recovery_calls = replicate 6 Step

pub recovered_board : Board
recovered_board = cut_and_played run garbage cut_cache recovery_calls

begins-fresh : Begins fresh (beginning (shaped 2))
unfolding fresh after_calls takes_test by_kind next cause causes first_standing bad_record any_under effect step format_step with_line count_under nth_from nth_under bits_in bit_of with_bit contains added size nth strays digit_of unheld held holds_any held_from with_digit
begins-fresh =
    formatted 2 2 _ (blank_for 2) _ fresh (performing (FormatStart 2 2) (blank_for 2) refl refl refl) (tested 4 (Step ∷ Step ∷ Step ∷ Step ∷ []) (next (FormatStart 2 2) (blank_for 2)) refl)

-- The run is one that the theorems speak of.
midway-history : History midway
unfolding midway
midway-history = calls-history first (opening fresh (beginning (shaped 2))) refl (begun begins-fresh)

-- After the first checkpoint worker 1 is away and no cut has fallen.
midway-seen : (midway.crashed ≡ false) × (condition_of midway.board.state 1 ≡ Away)
unfolding midway first fresh made made_all after_calls next cause causes first_standing bad_record any_under effect step format_step acts numbers_under perform_act perform_first stores_epoch advance advance_of line_of with_line field_index field_of with_field feed changed changed_at count_under fewer advanced checkpoint_step stepped nth_from nth_under bits_in bit_of with_bit contains added size nth strays digit_of unheld held holds_any held_from with_digit
midway-seen = (refl, refl)

pub run-history : History run
unfolding run
run-history = calls-history second midway midway-seen.0 midway-history

-- In the middle of the second checkpoint both workers are away, and worker 1 may not come back: cause 13.
pub run-seen : (condition_of run.board.state 0 ≡ Away) × (condition_of run.board.state 1 ≡ Away) × (cause (ComeBack 1) run.board ≡ 13)
unfolding run midway first second fresh made made_all after_calls next cause causes first_standing bad_record any_under effect step format_step acts numbers_under perform_act perform_first stores_epoch advance advance_of line_of with_line field_index field_of with_field feed changed changed_at count_under fewer advanced checkpoint_step stepped nth_from nth_under bits_in bit_of with_bit contains added size nth strays digit_of unheld held holds_any held_from with_digit
run-seen = (refl, refl, refl)

-- The recovery's start is taken, and then six steps.
run-takes : PlayedRecovery run garbage cut_cache recovery_calls 6
unfolding takes_test by_kind undo_steps recovery_calls run midway first second cut_cache fresh made made_all after_calls next cause causes first_standing bad_record any_under effect step format_step recovery_step acts numbers_under perform_act perform_first stores_epoch advance advance_of line_of with_line field_index field_of with_field feed changed changed_at count_under fewer advanced checkpoint_step stepped nth_from nth_under bits_in bit_of with_bit contains added size nth strays digit_of unheld held holds_any held_from with_digit
run-takes = record { same_length = refl; test = refl; count = refl }

-- What the machine held at the last completed checkpoint: 7 in cell 2.
run-values : (lines_of run.board.memory ≡ 2) × (run.machine.checkpointed (cell 2) ≡ 7)
unfolding run midway first second fresh made made_all after_calls next cause causes first_standing bad_record any_under effect step format_step acts numbers_under perform_act perform_first stores_epoch advance advance_of line_of with_line field_index field_of with_field feed changed changed_at count_under fewer advanced checkpoint_step stepped nth_from nth_under bits_in bit_of with_bit contains added size nth strays digit_of unheld held holds_any held_from with_digit
run-values = (refl, refl)

-- "What a cut brings back is still the last checkpoint, whoever was away": a read of cell 2 returns 0 and gives 7.
pub reads-seven : (number value : ℕ) (b : Board) → Performed (Read 2) recovered_board number value b → (number ≡ 0) × (value ≡ 7)
unfolding recovered_board
reads-seven = played-reads run run-history garbage cut_cache recovery_calls 6 run-takes 2 7 (omega (arith, run-values.0)) run-values.1
