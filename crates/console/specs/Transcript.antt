-- Document 01, "The drill program", and the fault program, which has its format: what is written for a whole input, byte by byte, and the board and the text that it leaves.
use Rattle.std.specs.Prelude.{ℕ, ◌+◌, ◌%◌, ◌^◌, cond, List, [], ◌∷◌, ◌++◌, ◌==◌, slice_index}
use Rattle.board.specs.Board.{Board}
use Rattle.text.specs.Ascii.{feed}
use Rattle.script.specs.Grammar.{joined, meaning}
use Rattle.script.specs.Answers.{header_text, answer_text, letter_of}
use Rattle.script.specs.Reasons.{reason, reason_number}
use Rattle.script.specs.declared.Program.{Program}
use Rattle.script.specs.declared.Shown.{Shown}
use Rattle.script.specs.declared.Shown.TheVariants as shown
use Rattle.console.specs.declared.progress.Misread.{Misread}
use Rattle.session.specs.Session.{Desk, first_desk}
use Rattle.session.specs.Lines.{carried_out}

-- "one call a line": an input cut at its line feeds; the last line may lack its own.
unfoldable pub lines_of : List ℕ → List (List ℕ)
lines_of [] = []
lines_of (b ∷ bs) = cond (b == feed) ([] ∷ lines_of bs) (joined b (lines_of bs))

-- "its number from 1": the number of the line after line `n`, in 64 bits.
abbrev pub following : ℕ → ℕ
following n = (n + 1) % 2 ^ 64

-- What is written for a line: "its number, call, answer, and the value read or -".
abbrev pub line_text : Program → ℕ → Desk → List ℕ → List ℕ
line_text program number d line =
    let done = carried_out (meaning program line) d in answer_text number (letter_of (slice_index line 0) done.answer) done.answer done.value

-- What is written for the lines after line `n`, each on the board and the text that the one before it left.
unfoldable pub answers : Program → ℕ → Desk → List (List ℕ) → List ℕ
answers program n d [] = []
answers program n d (line ∷ more) =
    line_text program (following n) d line ++ answers program (following n) (carried_out (meaning program line) d).desk more

-- The board and the text after lines, each carried out on what the one before it left.
unfoldable pub desk_after : Program → Desk → List (List ℕ) → Desk
desk_after program d [] = d
desk_after program d (line ∷ more) = desk_after program (carried_out (meaning program line) d).desk more

-- The board and the text that a whole input leaves.
abbrev pub last_desk : Program → List ℕ → Desk
last_desk program input = desk_after program first_desk (lines_of input)

-- The board that it leaves.
abbrev pub last_board : Program → List ℕ → Board
last_board program input = (last_desk program input).board

-- "Output: a header, then for each line".
abbrev pub transcript : Program → List ℕ → List ℕ
transcript program input = header_text ++ answers program 0 first_desk (lines_of input)

-- ---- the lines that are no calls, of which standard error tells

-- Lines answered `?`: how many, and the first one's number and the number of its reason, put together.
abbrev pub misread : ℕ → ℕ → ℕ → Misread
misread lines first why = record { lines = lines; first = first; why = why }

-- None.
abbrev pub none_misread : Misread
none_misread = misread 0 0 0

-- A line answered, tallied where the answer is `?`; number and reason are the first one's.
abbrev pub tallied : Misread → ℕ → ℕ → Shown → Misread
tallied m number why shown.Unknown =
    cond (m.lines == 0) (misread 1 number why) (misread (following m.lines) m.first m.why)
tallied m number why shown.Nothing = m
tallied m number why (shown.Number n) = m

-- A line after line `n`, tallied where it is answered `?`.
abbrev pub line_tallied : Program → ℕ → Desk → Misread → List ℕ → Misread
line_tallied program n d m line =
    tallied m (following n) (reason_number (reason program line (meaning program line))) (carried_out (meaning program line) d).answer

-- The lines answered `?` after lines, each on what the one before it left.
unfoldable pub misread_after : Program → ℕ → Desk → Misread → List (List ℕ) → Misread
misread_after program n d m [] = m
misread_after program n d m (line ∷ more) =
    misread_after program (following n) (carried_out (meaning program line) d).desk (line_tallied program n d m line) more

-- The lines of a whole input that are answered `?`.
abbrev pub misread_in : Program → List ℕ → Misread
misread_in program input = misread_after program 0 first_desk none_misread (lines_of input)
