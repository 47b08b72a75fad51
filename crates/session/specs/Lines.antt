-- Document 01, "The drill program": what a line of the script does to the board, and what is shown of it. The fault program's damage is `outcome`'s, its page `paged`, its work with the text `worked`.
use Rattle.std.specs.Prelude.{ℕ, zero, suc, Bool, cond, ◌&&◌, List, leb, ltb, length, take, replicate}
use Rattle.board.specs.declared.State.{State}
use Rattle.board.specs.declared.Phase.TheVariants.{Off}
use Rattle.board.specs.declared.Call.{Call}
use Rattle.board.specs.declared.Call.TheVariants.{FormatStart}
use Rattle.board.specs.Board.{Board, shaped, row_words, outside}
use Rattle.board.specs.Causes.{cause}
use Rattle.board.specs.Next.{lent, next, value_of}
use Rattle.board.specs.Next as board
use Rattle.board.specs.Page.{page_cause, page_left}
use Rattle.board.specs.Hex.{hex_write_cause, hex_write_left, hex_read_cause, hex_read_left}
use Rattle.board.specs.Machine.{format_steps}
use Rattle.board.specs.Statements.{steps_from}
use Rattle.script.specs.declared.Line.{Line}
use Rattle.script.specs.declared.Line.TheVariants as line
use Rattle.script.specs.declared.TextWork.{TextWork}
use Rattle.script.specs.declared.TextWork.TheVariants as work
use Rattle.script.specs.declared.Shown.{Shown}
use Rattle.script.specs.declared.Shown.TheVariants.{Unknown, Nothing, Number}
use Rattle.damage.specs.Checksum.{checksum_of}
use Rattle.damage.specs.Rows.{word_fits, stored_if}
use Rattle.damage.specs.Damages.{answer_if, outcome}
use Rattle.session.specs.declared.Answered.{Answered}
use Rattle.session.specs.declared.desk.Rows.{Rows}
use Rattle.session.specs.Session.{Desk, desk, desk_of}

-- What a line leaves and shows: the board and the text, the answer and the value.
pub record Done : Type 0 where
  pub desk : Desk
  pub answer : Shown
  pub value : Shown

-- What is left and shown, put together.
abbrev pub done : Desk → Shown → Shown → Done
done desk answer value = record { desk = desk; answer = answer; value = value }

-- Another board, beside the same text.
abbrev pub holding : Desk → Board → Desk
holding d b = desk b d.text

-- "Rows are sized by the last taken F": rows made anew for L lines, all 0.
abbrev pub rows_for : ℕ → State → Board
rows_for l state = lent state (replicate (row_words l) 0) (replicate (row_words l) 0)

-- "F L W (format to the end)": the start, and its L+2 steps.
abbrev pub formatted : ℕ → ℕ → Board → Board
formatted l w b = steps_from (format_steps l) (next (FormatStart l w) b)

-- "phase off", all else as it was.
abbrev pub switched_off : State → State
switched_off s =
    record { phase = Off; lines = s.lines; workers = s.workers; place = s.place; undo = s.undo; requested = s.requested; holders = s.holders; dirty = s.dirty; worker = s.worker }

-- "X (cut: cache zeroed, phase off, answer 0)".
abbrev pub cut_off : Board → Board
cut_off b = lent (switched_off b.state) b.memory (replicate (length b.cache) 0)

-- "p room: a page in a text row of `room` bytes, each 0xAA before".
abbrev pub text_row : ℕ → List ℕ
text_row room = replicate room 170

-- "the call's" number, and "the checksum of the whole text row, refused or not".
abbrev pub paged : ℕ → Desk → Done
paged room d = done d (Number (page_cause d.board (text_row room))) (Number (checksum_of (page_left d.board (text_row room))))

-- "h room: the text becomes `room` bytes, each 0xAA, and memory is written into it as HEX"; shown are the call's number and the whole text's checksum.
abbrev pub text_written : ℕ → Desk → Done
text_written room d =
    let text = hex_write_left d.board.memory (text_row room) in
    done (desk d.board text) (Number (hex_write_cause d.board.memory (text_row room))) (Number (checksum_of text))

-- "to 255; i the text's length or more: `?`".
abbrev pub byte_fits : List ℕ → ℕ → ℕ → Bool
byte_fits text i v = word_fits text i && leb v 255

-- "y n: the first n bytes of the text are read into memory".
abbrev pub text_read : ℕ → Desk → Done
text_read n d =
    let b = d.board in
    done (holding d (lent b.state (hex_read_left (take n d.text) b.memory) b.cache)) (Number (hex_read_cause (take n d.text) b.memory)) Nothing

-- What a line does with the text.
abbrev pub worked : TextWork → Desk → Done
-- "over 90,200: `?`".
worked (work.Write room) d = cond (ltb 90200 room) (done d Unknown Nothing) (text_written room d)
-- "Y i v: text byte i := v".
worked (work.Put i v) d =
    done (desk d.board (stored_if (byte_fits d.text i v) d.text i v)) (answer_if (byte_fits d.text i v)) Nothing
-- "n over the text's length: `?`".
worked (work.Read n) d = cond (ltb (length d.text) n) (done d Unknown Nothing) (text_read n d)

-- What a line does. A format is turned down by its limits alone, and then changes nothing. "A G turned down prints value 0", and so does an `n`.
abbrev pub carried_out : Line → Desk → Done
carried_out (line.Format l w) d =
    cond (outside (shaped l) w) (done d (Number 1) Nothing) (done (holding d (formatted l w (rows_for l d.board.state))) (Number 0) Nothing)
carried_out (line.Make call) d = done (holding d (next call d.board)) (Number (cause call d.board)) Nothing
carried_out (line.Show call) d =
    done (holding d (next call d.board)) (Number (cause call d.board)) (Number (value_of call d.board))
carried_out line.Cut d = done (holding d (cut_off d.board)) (Number 0) Nothing
carried_out (line.Damage x) d =
    let o = outcome x d.board in done (holding d o.board) o.answer o.value
-- "over 70,000: `?`".
carried_out (line.Page room) d = cond (ltb 70000 room) (done d Unknown Nothing) (paged room d)
carried_out (line.Text work) d = worked work d
carried_out line.Unknown d = done d Unknown Nothing

-- ---- what contracts say

-- A number, a value and a board, put together.
abbrev pub given : ℕ → ℕ → Board → board.Outcome
given number value board = record { number = number; value = value; board = board }

-- A call made `n` times, one after the other, from an outcome on: the last one's outcome.
unfoldable pub repeated : ℕ → Call → board.Outcome → board.Outcome
repeated zero call o = o
repeated (suc n) call o = repeated n call (board.outcome call o.board)

-- What the code leaves and shows.
abbrev pub left : Answered → Rows → Done
left r rows = done (desk_of r.session rows) r.answer r.value
