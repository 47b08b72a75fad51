-- A format begun before a reading: all its steps are taken, the board runs, and a recovery reads a value of the text.
use Prim.Native.Nat.{ℕ, ◌<◌}
use mathlib.Core.Path.{◌≡◌, refl, sym, subst}
use mathlib.Core.List.{[], ◌∷◌}
use mathlib.Core.Bool.{true}
use native.Mathlib.Omega.{arith}
use lib.ListN.{replicate}
use Rattle.predicate.specs.Passing.{any_under, count_under, nth_from, nth_under}
use Rattle.bitset.specs.Words.{bits_in, bit_of, with_bit, contains, inserted as added, size, nth, strays}
use Rattle.locks.specs.Holders.{digit_of, unheld, holds as held, holds_any, held_from, with_digit}
use Rattle.line.specs.Line.{with_line}
use Rattle.line.specs.Cell.{field_index, field_of}
use Rattle.board.specs.declared.Call.TheVariants.{FormatStart, RecoveryStart, Step}
use Rattle.board.specs.Board.{Board, shaped, cells, lines_of}
use Rattle.board.specs.State.{is_running}
use Rattle.board.specs.Causes.{bad_record, causes, first_standing, cause}
use Rattle.board.specs.Location.{Location, cell, undo}
use Rattle.board.specs.Effects.{format_step, step, effect}
use Rattle.board.specs.Next.{Taken, next, lent}
use Rattle.board.specs.Hex.{bytes_text, sum_of, record_text, low_bytes, word_bytes, hex_from, byte_of, bytes_in, all_bytes, has_record, has_data, has_end, parsed_from, parsed, word_of, words_of, hex_read_causes, hex_read_cause, hex_read_left, HexReadPerformed}
use Rattle.board.specs.Machine.{beginning}
use Rattle.board.specs.Sequence.{Run, opening, cut_run}
use Rattle.board.specs.Statements.{ReadsCheckpointed, Recovered, CutAndRecovered}
use Rattle.board.specs.Bench.{blank_for, after_calls}
use Rattle.board.specs.HexHistories.{FormatBefore}
use Rattle.board.proofs.Laws.Taken.{performing}
use Rattle.board.proofs.Laws.Playing.{by_kind, takes_test, tested}
use Rattle.board.proofs.PlayedReads.{garbage}
use Rattle.board.proofs.Theorems.{demand3, recovery-from}
use Rattle.board.proofs.HexHistories.Begins.{reads-otherwise}
use Rattle.board.proofs.HexHistories.Text.{words, text}

-- The format (2, 1) is begun, and lines 0 and 1 are erased.
start : Board
start = next (FormatStart 2 1) (blank_for 2)

middle : Board
middle = after_calls (Step ∷ Step ∷ []) start

-- The text is read into memory; then line 2 is erased, and the header is written.
read_board : Board
read_board = lent middle.state words middle.cache

end : Board
end = after_calls (Step ∷ Step ∷ []) read_board

-- What would be the run of a finished format, after it and a cut.
run : Run
run = opening end (beginning (shaped 2))

cut : Run
cut = cut_run garbage (replicate 24 99) run

begun : Taken (FormatStart 2 1) (blank_for 2)
unfolding cause causes first_standing bad_record any_under effect step format_step with_line count_under nth_from nth_under bits_in bit_of with_bit contains added size nth strays digit_of unheld held holds_any held_from with_digit
begun = refl

steps : (takes_test 2 (Step ∷ Step ∷ []) start ≡ true) × (takes_test 2 (Step ∷ Step ∷ []) read_board ≡ true) × (is_running end.state.phase ≡ true)
unfolding read_board middle start end words after_calls takes_test by_kind next cause causes first_standing bad_record any_under effect step format_step with_line count_under nth_from nth_under bits_in bit_of with_bit contains added size nth strays digit_of unheld held holds_any held_from with_digit
steps = (refl, refl, refl)

read : HexReadPerformed text middle.memory 0 words
unfolding middle start words text after_calls hex_read_cause hex_read_causes hex_read_left parsed parsed_from has_end has_data has_record all_bytes bytes_in byte_of sum_of hex_from record_text bytes_text low_bytes word_bytes word_of words_of next cause causes first_standing bad_record any_under effect step format_step with_line count_under nth_from nth_under bits_in bit_of with_bit contains added size nth strays digit_of unheld held holds_any held_from with_digit
read = refl

-- Line 1 is the text's: cell 1 reads 5.
seen : Taken RecoveryStart cut.board × (lines_of cut.board.memory ≡ 2) × (undo cut.board.memory (cell 1) ≡ 5)
unfolding cut run read_board middle start end words after_calls field_index field_of next cause causes first_standing bad_record any_under effect step format_step with_line count_under nth_from nth_under bits_in bit_of with_bit contains added size nth strays digit_of unheld held holds_any held_from with_digit
seen = (refl, refl, refl)

left : (b : Board) × Recovered cut b
left = recovery-from cut seen.0

after : CutAndRecovered run left.0
unfolding cut run read_board middle start end words after_calls next cause causes first_standing bad_record any_under effect step format_step with_line count_under nth_from nth_under bits_in bit_of with_bit contains added size nth strays digit_of unheld held holds_any held_from with_digit
after = record { state = garbage; cache = replicate 24 99; same_length = refl; recovered = left.1 }

wrong : ReadsCheckpointed (beginning (shaped 2)) left.0 → ⊥
wrong =
    reads-otherwise cut left.0 left.1 (λ (u : Location). 0) 1 (subst (λ (l : ℕ). 1 < cells (shaped l)) (sym seen.1) (omega arith))
    (λ e. omega (arith, e, seen.2))

-- A finished format would promise 0.
pub format-before : FormatBefore
unfolding cut run read_board middle start end
format-before =
    record {
      lines = 2;
      workers = 1;
      value = _;
      board = blank_for 2;
      start = start;
      begun = performing (FormatStart 2 1) (blank_for 2) begun refl refl;
      early = 2;
      middle = middle;
      some = tested 2 (Step ∷ Step ∷ []) start steps.0;
      text = text;
      words = words;
      read = read;
      late = 2;
      end = end;
      others = tested 2 (Step ∷ Step ∷ []) read_board steps.1;
      all = refl;
      running = steps.2;
      left = left.0;
      recovered = after;
      wrong = wrong;
      no_history = λ h. wrong (demand3 run run h h left.0 left.0 after after).0;
    }
