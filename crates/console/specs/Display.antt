-- The show program: what is shown of a HEX text, the header's numbers and the page of the board that it holds, recovered to its end.
use Rattle.std.specs.Prelude.{◌≡◌, ℕ, cond, List, [], ◌∷◌, ◌++◌, length, take, replicate, Result, Ok, Err, ◌==◌, nat_lt}
use Rattle.board.specs.declared.Phase.TheVariants.{Off}
use Rattle.board.specs.declared.Call.TheVariants.{RecoveryStart}
use Rattle.board.specs.Board.{Board, shaped, epoch_of, lines_of, workers_of}
use Rattle.board.specs.State.{started}
use Rattle.board.specs.Causes.{cause}
use Rattle.board.specs.Next.{lent, next}
use Rattle.board.specs.Sequence.{recovery_steps}
use Rattle.board.specs.Statements.{steps_from}
use Rattle.board.specs.Hex.{hex_words, hex_read_cause, hex_read_left, HexReadPerformed}
use Rattle.causes.specs.declared.refusals.Refusal.{Refusal}
use Rattle.causes.specs.Refusals.{number_of}
use Rattle.text.specs.Ascii.{blank, feed}
use Rattle.text.specs.Numbers.{number_text}
use Rattle.console.specs.declared.display.Displayed.{Displayed}
use Rattle.console.specs.Printing.{Printed, printing, printed_of}

-- How many words a text is read into: those that it holds, but no more than the largest memory has.
unfoldable pub words_for : List ℕ → ℕ
words_for text = cond (nat_lt 4096 (hex_words text)) 4096 (hex_words text)

-- The row that a text is read into.
abbrev pub row_for : List ℕ → List ℕ
row_for text = replicate (words_for text) 0

-- A memory before its recovery: the record off, the cache zeros.
abbrev pub unrecovered : List ℕ → Board
unrecovered memory = lent (started Off (shaped 0) 0) memory (replicate (length memory) 0)

-- A board recovered to its end: all steps that memory calls for at the start.
abbrev pub recovered : Board → Board
recovered b = steps_from (recovery_steps b.memory) (next RecoveryStart b)

-- "epoch E, L l, W w", by memory's header.
unfoldable pub header_line : List ℕ → List ℕ
header_line memory =
    (101 ∷ 112 ∷ 111 ∷ 99 ∷ 104 ∷ blank ∷ []) ++ number_text (epoch_of memory) ++ (44 ∷ blank ∷ 76 ∷ blank ∷ []) ++ number_text (lines_of memory)
    ++ (44 ∷ blank ∷ 87 ∷ blank ∷ []) ++ number_text (workers_of memory) ++ (feed ∷ [])

-- What is shown of a board: its header's line and its page where the page is taken, nothing where it is refused.
unfoldable pub board_shown : Board → Printed
board_shown b =
    let page = printed_of b in printing page.number (cond (page.number == 0) (header_line b.memory ++ page.text) [])

-- What is shown of a memory: nothing where recovery's start turns it down.
unfoldable pub memory_shown : List ℕ → Printed
memory_shown memory =
    let b = unrecovered memory in
    let number = cause RecoveryStart b in
    cond (number == 0) (board_shown (recovered b)) (printing number [])

-- What is shown of a text: nothing where reading turns it down.
unfoldable pub text_shown : List ℕ → Printed
text_shown text =
    let number = hex_read_cause text (row_for text) in
    cond (number == 0) (memory_shown (hex_read_left text (row_for text))) (printing number [])

-- ---- what is claimed

-- A memory that recovery's start takes is shown: its page is never refused.
abbrev pub AlwaysShown : Type 0
AlwaysShown = (b : Board) → cause RecoveryStart b ≡ 0 → (printed_of (recovered b)).number ≡ 0

-- A text that can be read is shown as the memory that a reading of it leaves, whatever row that was read into.
abbrev pub ShownAsRead : Type 0
ShownAsRead = (text row left : List ℕ) → HexReadPerformed text row 0 left → text_shown text ≡ memory_shown left

-- ---- what contracts say

-- What the code shows: the first bytes of the two rows, nothing where it is refused.
abbrev pub shown_by : Result Displayed Refusal → List ℕ → List ℕ → Printed
shown_by (Ok shown) heading row = printing 0 (take shown.heading heading ++ take shown.bytes row)
shown_by (Err refusal) heading row = printing (number_of refusal) []
