-- An inhabited example: a history with a cut in the middle of a checkpoint, pages and texts of it taken and refused, refused readings, and a recovery with write-backs and a refused call among its steps.
use Prim.Native.Nat.{ℕ}
use mathlib.Core.Path.{◌≡◌, refl}
use mathlib.Core.List.{List, [], ◌∷◌}
use native.Mathlib.Omega.{arith}
use lib.ListN.{replicate}
use Rattle.predicate.specs.Passing.{any_under, count_under, nth_from, nth_under, numbers_under}
use Rattle.bitset.specs.Words.{bits_in, bit_of, with_bit, contains, inserted as added, size, nth, strays}
use Rattle.locks.specs.Holders.{digit_of, unheld, holds as held, holds_any, held_from, with_digit}
use Rattle.line.specs.Line.{line_of, with_line}
use Rattle.line.specs.Cell.{field_index, field_of, with_field}
use Rattle.board.specs.declared.Call.{Call}
use Rattle.board.specs.declared.Call.TheVariants.{FormatStart, Step, Update, RestartPoint, Advance, Request, WriteBack, Read, TakeLock, GiveBackLock}
use Rattle.board.specs.Board.{Board, shaped, lines_of}
use Rattle.board.specs.Causes.{bad_record, causes, first_standing, cause}
use Rattle.board.specs.Location.{cell, changed_at}
use Rattle.board.specs.Effects.{format_step, recovery_step, perform_act, perform_first, step, advance, advance_of, effect}
use Rattle.board.specs.Checkpoint.{acts, stores_epoch}
use Rattle.board.specs.Next.{next, Performed}
use Rattle.board.specs.Page.{page_causes, page_cause, page_left}
use Rattle.board.specs.Machine.{beginning, changed, fewer, advanced, checkpoint_step, stepped, write_back_seen, feed}
use Rattle.board.specs.Hex.{hex_write_causes, hex_write_cause, hex_write_left, hex_read_causes, hex_read_cause, hex_read_left, parsed_from, parsed}
use Rattle.board.specs.Quiet.{page, written, memory_refused, cache_refused}
use Rattle.board.specs.Sequence.{Begins, formatted, Run, opening, stays, History, begun, further, undo_steps}
use Rattle.board.specs.Bench.{blank_for, after_calls}
use Rattle.board.proofs.Laws.Taken.{performing}
use Rattle.board.proofs.Laws.Playing.{made, made_all, calls-history, by_kind, takes_test, tested}
use Rattle.board.proofs.PlayedReads.{garbage, cut_and_played, PlayedRecovery, played-reads}

-- ---- the history

-- The board as the format (1, 1) left it.
fresh : Board
fresh = after_calls (FormatStart 1 1 ∷ Step ∷ Step ∷ Step ∷ []) (blank_for 1)

-- A checkpoint with 7 in cell 1 and restart point 3, and then a second one with 9 and 4 that has stored its epoch in the cache.
calls : List Call
calls =
    TakeLock 0 1 ∷ Update 0 1 7 ∷ Advance 0 ∷ Advance 0 ∷ Advance 0 ∷ GiveBackLock 0 1 ∷ Request ∷ RestartPoint 0 3 ∷ Advance 0 ∷ Advance 0 ∷ Advance 0
    ∷ Step ∷ Step ∷ Step ∷ Step
    ∷ TakeLock 0 1 ∷ Update 0 1 9 ∷ Advance 0 ∷ Advance 0 ∷ WriteBack 1 ∷ Advance 0 ∷ GiveBackLock 0 1 ∷ Request ∷ RestartPoint 0 4 ∷ Advance 0 ∷ Advance 0 ∷ Advance 0
    ∷ Step ∷ Step ∷ []

-- The run that the history leads to.
pub run : Run
run = made_all calls (opening fresh (beginning (shaped 1)))

-- What the cut leaves beside a state record of no sense: words of no meaning in the cache.
cut_cache : List ℕ
cut_cache = replicate 16 77

-- The recovery's calls: line 1 is written back in the middle of the first cell's undo, and a read is refused.
recovery_calls : List Call
recovery_calls = Step ∷ WriteBack 1 ∷ Step ∷ Read 1 ∷ Step ∷ Step ∷ Step ∷ WriteBack 0 ∷ Step ∷ []

-- The board after it.
pub recovered_board : Board
recovered_board = cut_and_played run garbage cut_cache recovery_calls

-- ---- the history is one, and the recovery is finished

begins-fresh : Begins fresh (beginning (shaped 1))
unfolding fresh after_calls takes_test by_kind next cause causes first_standing bad_record any_under effect step format_step with_line count_under nth_from nth_under bits_in bit_of with_bit contains added size nth strays digit_of unheld held holds_any held_from with_digit
begins-fresh =
    formatted 1 1 _ (blank_for 1) _ fresh (performing (FormatStart 1 1) (blank_for 1) refl refl refl) (tested 3 (Step ∷ Step ∷ Step ∷ []) (next (FormatStart 1 1) (blank_for 1)) refl)

-- The run is one that the theorems speak of.
pub run-history : History run
unfolding run
run-history = calls-history calls (opening fresh (beginning (shaped 1))) refl (begun begins-fresh)

-- A page of it carries the history on and leaves the run as it was.
pub paged-history : (text : List ℕ) → History run
paged-history text = further run-history (stays (page text (page_left run.board text) refl))

-- So does a text written of its memory, taken or refused.
pub written-history : (text : List ℕ) → History run
written-history text = further run-history (stays (written run.board.memory text (hex_write_left run.board.memory text) refl))

-- So do a refused reading into memory and then one into the cache: an empty text is no file.
pub unread-history : History run
unfolding hex_read_left hex_read_cause hex_read_causes parsed parsed_from first_standing
unread-history =
    further (further run-history (stays (memory_refused {number = 19} [] run.board.memory refl (λ e. omega arith))))
    (stays (cache_refused {number = 19} [] run.board.cache refl (λ e. omega arith)))

-- With 204 bytes the page is taken, with one fewer it is refused.
pub paged : (page_cause run.board (replicate 204 170) ≡ 0) × (page_cause run.board (replicate 203 170) ≡ 12)
unfolding run calls fresh made made_all after_calls next cause causes first_standing bad_record any_under effect step format_step recovery_step acts numbers_under perform_act perform_first stores_epoch advance advance_of line_of with_line field_index field_of with_field feed changed changed_at count_under fewer advanced checkpoint_step stepped write_back_seen page_cause page_causes nth_from nth_under bits_in bit_of with_bit contains added size nth strays digit_of unheld held holds_any held_from with_digit
paged = (refl, refl)

-- With 364 bytes the text is written, with one fewer it is refused.
pub wrote : (hex_write_cause run.board.memory (replicate 364 170) ≡ 0) × (hex_write_cause run.board.memory (replicate 363 170) ≡ 12)
unfolding run calls fresh made made_all after_calls next cause causes first_standing bad_record any_under effect step format_step recovery_step acts numbers_under perform_act perform_first stores_epoch advance advance_of line_of with_line field_index field_of with_field feed changed changed_at count_under fewer advanced checkpoint_step stepped write_back_seen hex_write_cause hex_write_causes nth_from nth_under bits_in bit_of with_bit contains added size nth strays digit_of unheld held holds_any held_from with_digit
wrote = (refl, refl)

-- The recovery's start is taken, and then six steps, with two taken write-backs and a refused read among them.
run-takes : PlayedRecovery run garbage cut_cache recovery_calls 6
unfolding takes_test by_kind undo_steps recovery_calls run calls cut_cache fresh made made_all after_calls next cause causes first_standing bad_record any_under effect step format_step recovery_step acts numbers_under perform_act perform_first stores_epoch advance advance_of line_of with_line field_index field_of with_field feed changed changed_at count_under fewer advanced checkpoint_step stepped write_back_seen nth_from nth_under bits_in bit_of with_bit contains added size nth strays digit_of unheld held holds_any held_from with_digit
run-takes = record { same_length = refl; test = refl; count = refl }

-- What the machine held at the last completed checkpoint: 7 in cell 1, on a board of one line.
run-values : (lines_of run.board.memory ≡ 1) × (run.machine.checkpointed (cell 1) ≡ 7)
unfolding run calls fresh made made_all after_calls next cause causes first_standing bad_record any_under effect step format_step acts numbers_under perform_act perform_first stores_epoch advance advance_of line_of with_line field_index field_of with_field feed changed changed_at count_under fewer advanced checkpoint_step stepped write_back_seen nth_from nth_under bits_in bit_of with_bit contains added size nth strays digit_of unheld held holds_any held_from with_digit
run-values = (refl, refl)

-- A read of cell 1 then returns 0 and gives 7.
pub reads-seven : (number value : ℕ) (b : Board) → Performed (Read 1) recovered_board number value b → (number ≡ 0) × (value ≡ 7)
unfolding recovered_board
reads-seven = played-reads run run-history garbage cut_cache recovery_calls 6 run-takes 1 7 (omega (arith, run-values.0)) run-values.1
