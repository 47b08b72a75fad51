-- An input that comes in pieces: what a piece leaves and what is written to it, and that pieces do not matter.
use Rattle.std.specs.Prelude.{◌≡◌, ℕ, ◌+◌, ◌<◌, ◌≤◌, Bool, true, cond, List, [], ◌∷◌, ◌++◌, length, take, drop, ◌==◌, slice_index}
use mathlib.Core.List.{flatten}
use Rattle.console.specs.Bytes.{index_of}
use Rattle.text.specs.Ascii.{feed}
use Rattle.script.specs.Grammar.{meaning}
use Rattle.script.specs.Answers.{header_text}
use Rattle.script.specs.Reasons.{reason, reason_number}
use Rattle.script.specs.declared.Program.{Program}
use Rattle.console.specs.declared.answers.LineAsked.{LineAsked}
use Rattle.console.specs.declared.progress.Buffers.{Buffers}
use Rattle.console.specs.declared.progress.Ongoing.{Ongoing}
use Rattle.board.specs.Next.{lent}
use Rattle.session.specs.Session.{Desk, desk, desk_of, SameRows, first_desk}
use Rattle.session.specs.Lines.{carried_out}
use Rattle.console.specs.declared.progress.Misread.{Misread}
use Rattle.console.specs.Transcript.{following, line_text, transcript, last_board, none_misread, line_tallied, misread_in}

-- What is carried from piece to piece: the board and the text, the lines answered and those answered `?`, and the line begun.
pub record Carried : Type 0 where
  pub desk : Desk
  pub number : ℕ
  pub misread : Misread
  pub begun : List ℕ

-- What is carried, put together.
abbrev pub carried : Desk → ℕ → Misread → List ℕ → Carried
carried desk number misread begun = record { desk = desk; number = number; misread = misread; begun = begun }

-- Before the first line.
abbrev pub first : Carried
first = carried first_desk 0 none_misread []

-- What some input leaves, and what is written to it.
pub record Fed : Type 0 where
  pub after : Carried
  pub text : List ℕ

-- What is left and written, put together.
abbrev pub leaving : Carried → List ℕ → Fed
leaving after text = record { after = after; text = text }

-- Bytes of a line that goes on: 80 of a line are kept, so that it is known to be too long.
abbrev pub kept : Carried → List ℕ → Carried
kept p bytes = carried p.desk p.number p.misread (take 80 (p.begun ++ bytes))

-- The end of the line begun: it is answered.
abbrev pub ended : Program → Carried → Fed
ended program p =
    leaving
    (carried (carried_out (meaning program p.begun) p.desk).desk (following p.number)
    (line_tallied program p.number p.desk p.misread p.begun) [])
    (line_text program (following p.number) p.desk p.begun)

-- One byte: the end of a line, or a byte of it.
abbrev pub byte_fed : Program → Carried → ℕ → Fed
byte_fed program p b = cond (b == feed) (ended program p) (leaving (kept p (b ∷ [])) [])

-- Two inputs one after the other.
abbrev pub and_then : Fed → Fed → Fed
and_then r s = leaving s.after (r.text ++ s.text)

-- The bytes of a piece, one after the other.
unfoldable pub fed : Program → Carried → List ℕ → Fed
fed program p [] = leaving p []
fed program p (b ∷ bs) = and_then (byte_fed program p b) (fed program (byte_fed program p b).after bs)

-- After the input: the end of the last line, where it lacks its line feed.
abbrev pub finished : Program → Carried → Fed
finished program p = cond (length p.begun == 0) (leaving p []) (ended program p)

-- The pieces of an input, one after the other, and its end.
unfoldable pub fed_all : Program → Carried → List (List ℕ) → Fed
fed_all program p [] = finished program p
fed_all program p (piece ∷ more) = and_then (fed program p piece) (fed_all program (fed program p piece).after more)

-- However an input is cut into pieces, the header and what is written to them are the transcript of the whole input.
abbrev pub AnyPieces : Type 0
AnyPieces =
    (program : Program) (pieces : List (List ℕ)) → header_text ++ (fed_all program first pieces).text ≡ transcript program (flatten pieces)

-- However an input is cut into pieces, the board that they leave is the one that the whole input leaves.
abbrev pub AnyPiecesBoard : Type 0
AnyPiecesBoard =
    (program : Program) (pieces : List (List ℕ)) → (fed_all program first pieces).after.desk.board ≡ last_board program (flatten pieces)

-- However an input is cut into pieces, the lines tallied as answered `?` are those of the whole input.
abbrev pub AnyPiecesMisread : Type 0
AnyPiecesMisread =
    (program : Program) (pieces : List (List ℕ)) → (fed_all program first pieces).after.misread ≡ misread_in program (flatten pieces)

-- ---- what contracts say

-- What the code carries: the board and the text of its session, the lines answered and those answered `?`, and the first bytes of the line kept.
abbrev pub carried_by : Ongoing → Buffers → Carried
carried_by p buffers = carried (desk_of p.session buffers.rows) p.number p.misread (take p.begun buffers.line.now)

-- The same, where memory, cache, text and the bytes kept are these.
abbrev pub carried_in : Ongoing → List ℕ → List ℕ → List ℕ → List ℕ → Carried
carried_in p memory cache text line =
    let s = p.session in
    carried (desk (lent s.state (take s.memory memory) (take s.cache cache)) (take s.text text)) p.number p.misread (take p.begun line)

-- The same arrays are lent.
pub record SameBuffers (old new : Buffers) : Type 0 where
  pub rows : SameRows old.rows new.rows
  pub line : new.line.ghost_name ≡ old.line.ghost_name
  pub out : new.out.ghost_name ≡ old.out.ghost_name

-- The line that goes on at `from` goes on at `i`: it ends at the same place.
pub record LineGoesOn (text : List ℕ) (from i : ℕ) : Type 0 where
  pub later : from ≤ i
  pub inside : i ≤ length text
  pub same_end : i + index_of feed (drop i text) ≡ from + index_of feed (drop from text)

-- A line is read: what it means, its first byte, by which its answer is headed, and, if that is wanted, why it would be answered `?`.
pub record LineRead (program : Program) (wanted : Bool) (text : List ℕ) (asked : LineAsked) : Type 0 where
  pub means : asked.line ≡ meaning program text
  pub begins : asked.first ≡ slice_index text 0
  pub reasons : wanted ≡ true → asked.why ≡ reason_number (reason program text (meaning program text))

-- A line's end as it should be, by the code: what is carried on, and the answer written behind `at`, up to `end`.
pub record LineEnds (should : Fed) (after : Carried) (out : List ℕ) (at : ℕ) (written : List ℕ) (end : ℕ) : Type 0 where
  pub leaves : after ≡ should.after
  pub writes : take end written ≡ take at out ++ should.text
  pub within : end ≤ at + 65

-- A piece is answered up to `used`, with `written` bytes: all of it, or as far as the answers surely fit the buffer.
pub record Stops (piece : List ℕ) (used written : ℕ) : Type 0 where
  pub used-within : used ≤ length piece
  pub written-within : written ≤ 65536
  pub buffer-full : used < length piece → 65536 < written + 80
  pub goes_on : 0 < length piece → 0 < used
