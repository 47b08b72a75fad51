-- The page program and the HEX program: what is printed of the board that a whole input leaves.
use Rattle.std.specs.Prelude.{◌≡◌, ℕ, cond, List, [], take, replicate, Result, Ok, Err, ◌==◌, ◌≢◌}
use mathlib.Core.List.{flatten}
use Rattle.board.specs.Board.{Board, shaped, shape_of, cells}
use Rattle.board.specs.Hex.{hex_text, hex_bytes, hex_write_cause}
use Rattle.board.specs.Page.{page_text, page_bytes, page_cause}
use Rattle.causes.specs.declared.refusals.Refusal.{Refusal}
use Rattle.causes.specs.Refusals.{number_of}
use Rattle.script.specs.declared.Program.TheVariants.{Drill, Page, Hex}
use Rattle.console.specs.Transcript.{last_board}
use Rattle.console.specs.Pieces.{first, fed_all}

-- The call's number, and what is printed.
pub record Printed : Type 0 where
  pub number : ℕ
  pub text : List ℕ

-- A number and what is printed, put together.
abbrev pub printing : ℕ → List ℕ → Printed
printing number text = record { number = number; text = text }

-- The text row that is lent: as long as the largest page.
unfoldable pub largest_row : List ℕ
largest_row = replicate (page_bytes (shaped 511)) 0

-- What is printed of a board: its page where the page is taken, nothing where it is refused.
unfoldable pub printed_of : Board → Printed
printed_of b =
    let number = page_cause b largest_row in printing number (cond (number == 0) (page_text b.cache (cells (shape_of b.state))) [])

-- What is printed for a whole input.
abbrev pub page_printed : List ℕ → Printed
page_printed input = printed_of (last_board Page input)

-- The text row that is lent for HEX: as long as the text of the largest memory.
unfoldable pub longest_row : List ℕ
longest_row = replicate (hex_bytes 4096) 0

-- What is printed of a memory: its text where writing is taken, nothing where it is refused.
unfoldable pub hex_printed_of : List ℕ → Printed
hex_printed_of memory =
    let number = hex_write_cause memory longest_row in printing number (cond (number == 0) (hex_text memory) [])

-- What the HEX program prints for a whole input.
abbrev pub hex_printed : List ℕ → Printed
hex_printed input = hex_printed_of (last_board Hex input).memory

-- ---- what is claimed

-- However an input is cut into pieces, what is printed of the board that they leave is what is printed for the whole input.
abbrev pub AnyPiecesPrinted : Type 0
AnyPiecesPrinted = (pieces : List (List ℕ)) → printed_of (fed_all Page first pieces).after.desk.board ≡ page_printed (flatten pieces)

-- The same of the memory that they leave, as HEX.
abbrev pub AnyPiecesHexPrinted : Type 0
AnyPiecesHexPrinted =
    (pieces : List (List ℕ)) → hex_printed_of (fed_all Hex first pieces).after.desk.board.memory ≡ hex_printed (flatten pieces)

-- A script leaves the board that it leaves in the drill.
abbrev pub BoardOfDrill : Type 0
BoardOfDrill = (input : List ℕ) → (last_board Page input ≡ last_board Drill input) × (last_board Hex input ≡ last_board Drill input)

-- The row lent is never too short.
abbrev pub NeverShort : Type 0
NeverShort = (b : Board) → page_cause b largest_row ≢ 12

-- Nor is the one lent for HEX.
abbrev pub HexNeverShort : Type 0
HexNeverShort = (memory : List ℕ) → hex_write_cause memory longest_row ≢ 12

-- ---- what contracts say

-- What the code prints: the first bytes of the text row, nothing where it is refused.
abbrev pub printed_by : Result ℕ Refusal → List ℕ → Printed
printed_by (Ok bytes) row = printing 0 (take bytes row)
printed_by (Err refusal) row = printing (number_of refusal) []
