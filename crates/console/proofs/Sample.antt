-- Document 01's sample script, with the locks of document 02, ticket 6, bench case K12, and lines that are no calls, computed.
use Rattle.std.proofs.Common.{◌≡◌, ℕ, List, [], ◌∷◌, ◌++◌, refl}
use mathlib.Core.List.{flatten}
use Rattle.line.specs.Line.{line_of, with_line}
use Rattle.line.specs.Cell.{field_index, field_of, with_field}
use Rattle.predicate.specs.Passing.{any_under, numbers_under}
use Rattle.board.specs.Checkpoint.{acts, stores_epoch}
use Rattle.bitset.specs.Words.{bit_of, with_bit, contains, inserted, strays}
use Rattle.locks.specs.Holders.{digit_of, unheld, holds, holds_any, held_from, with_digit}
use Rattle.board.specs.Causes.{bad_record, causes, first_standing, cause}
use Rattle.board.specs.Effects.{format_step, recovery_step, perform_act, perform_first, step, advance, advance_of, effect}
use Rattle.board.specs.Next.{next, value_read, value_of}
use Rattle.board.specs.Statements.{steps_from}
use Rattle.text.specs.Ascii.{tab, feed, blank, '-', '0', 'A', 'E', 'F', 'G', 'H', 'R', 'S', 'U', 'V', 'X', 'p'}
use Rattle.text.specs.Numbers.{spelled, all_digits, value_after}
use Rattle.script.specs.Grammar.{fields, is_number, all_numbers, drilled, damaging, formed, meaning}
use Rattle.script.specs.Answers.{answer_text, header_text}
use Rattle.script.specs.Fields.{first, later}
use Rattle.script.specs.Reasons.{stands_in, unlettered, field_reason, fields_reason, form_reason, unknown_reason, reason_number}
use Rattle.script.specs.declared.Program.TheVariants.{Drill, Fault, Page}
use Rattle.script.specs.declared.Reason.TheVariants.{Blanks, Letter, Unfit}
use Rattle.console.specs.Transcript.{lines_of, answers, transcript, misread, none_misread, misread_after, misread_in}

-- The digits beside '0' that the script and its answers have.
abbrev '1' : ℕ
'1' = 49

abbrev '2' : ℕ
'2' = 50

abbrev '3' : ℕ
'3' = 51

abbrev '4' : ℕ
'4' = 52

abbrev '5' : ℕ
'5' = 53

abbrev '6' : ℕ
'6' = 54

abbrev '7' : ℕ
'7' = 55

abbrev '8' : ℕ
'8' = 56

abbrev '9' : ℕ
'9' = 57

-- "F 1 1", with tabs for blanks.
abbrev format : List ℕ
format = 'F' ∷ tab ∷ '1' ∷ tab ∷ '1' ∷ feed ∷ []

-- "Lines `F 1 1`, `U 0 1 7`, `A 0` three times, `E 1`, `X`, `R`, `S` four times, `G 1`"; 02, ticket 6: "take the lock before each update and give it back after", `H 0 1` and `V 0 1`.
unfoldable pub script : List (List ℕ)
script =
    format ∷
    ('H' ∷ tab ∷ '0' ∷ tab ∷ '1' ∷ feed ∷ []) ∷
    ('U' ∷ tab ∷ '0' ∷ tab ∷ '1' ∷ tab ∷ '7' ∷ feed ∷ []) ∷
    ('A' ∷ tab ∷ '0' ∷ feed ∷ []) ∷
    ('A' ∷ tab ∷ '0' ∷ feed ∷ []) ∷
    ('A' ∷ tab ∷ '0' ∷ feed ∷ []) ∷
    ('V' ∷ tab ∷ '0' ∷ tab ∷ '1' ∷ feed ∷ []) ∷
    ('E' ∷ tab ∷ '1' ∷ feed ∷ []) ∷
    ('X' ∷ feed ∷ []) ∷
    ('R' ∷ feed ∷ []) ∷
    ('S' ∷ feed ∷ []) ∷
    ('S' ∷ feed ∷ []) ∷
    ('S' ∷ feed ∷ []) ∷
    ('S' ∷ feed ∷ []) ∷
    ('G' ∷ tab ∷ '1' ∷ feed ∷ []) ∷
    []

-- What they print.
unfoldable pub printed : List (List ℕ)
printed =
    ('1' ∷ tab ∷ 'F' ∷ tab ∷ '0' ∷ tab ∷ '-' ∷ feed ∷ []) ∷
    ('2' ∷ tab ∷ 'H' ∷ tab ∷ '0' ∷ tab ∷ '-' ∷ feed ∷ []) ∷
    ('3' ∷ tab ∷ 'U' ∷ tab ∷ '0' ∷ tab ∷ '-' ∷ feed ∷ []) ∷
    ('4' ∷ tab ∷ 'A' ∷ tab ∷ '0' ∷ tab ∷ '-' ∷ feed ∷ []) ∷
    ('5' ∷ tab ∷ 'A' ∷ tab ∷ '0' ∷ tab ∷ '-' ∷ feed ∷ []) ∷
    ('6' ∷ tab ∷ 'A' ∷ tab ∷ '0' ∷ tab ∷ '-' ∷ feed ∷ []) ∷
    ('7' ∷ tab ∷ 'V' ∷ tab ∷ '0' ∷ tab ∷ '-' ∷ feed ∷ []) ∷
    ('8' ∷ tab ∷ 'E' ∷ tab ∷ '0' ∷ tab ∷ '-' ∷ feed ∷ []) ∷
    ('9' ∷ tab ∷ 'X' ∷ tab ∷ '0' ∷ tab ∷ '-' ∷ feed ∷ []) ∷
    ('1' ∷ '0' ∷ tab ∷ 'R' ∷ tab ∷ '0' ∷ tab ∷ '-' ∷ feed ∷ []) ∷
    ('1' ∷ '1' ∷ tab ∷ 'S' ∷ tab ∷ '0' ∷ tab ∷ '-' ∷ feed ∷ []) ∷
    ('1' ∷ '2' ∷ tab ∷ 'S' ∷ tab ∷ '0' ∷ tab ∷ '-' ∷ feed ∷ []) ∷
    ('1' ∷ '3' ∷ tab ∷ 'S' ∷ tab ∷ '0' ∷ tab ∷ '-' ∷ feed ∷ []) ∷
    ('1' ∷ '4' ∷ tab ∷ 'S' ∷ tab ∷ '0' ∷ tab ∷ '-' ∷ feed ∷ []) ∷
    ('1' ∷ '5' ∷ tab ∷ 'G' ∷ tab ∷ '0' ∷ tab ∷ '0' ∷ feed ∷ []) ∷
    []

-- The sample script prints what document 01 says, and 0 for its two locks.
pub sample : transcript Drill (flatten script) ≡ header_text ++ flatten printed
unfolding script printed flatten lines_of answers fields all_digits value_after is_number all_numbers drilled formed meaning spelled answer_text next value_of value_read steps_from cause causes first_standing bad_record any_under bit_of with_bit contains inserted strays digit_of unheld holds holds_any held_from with_digit effect step format_step recovery_step acts numbers_under perform_act perform_first stores_epoch advance advance_of line_of with_line field_index field_of with_field
sample = refl

-- "K12: update of cell 0 or 2 gives 7", "from a fresh format (1, 1)".
pub k12 : transcript Drill (format ++ ('U' ∷ tab ∷ '0' ∷ tab ∷ '0' ∷ tab ∷ '7' ∷ feed ∷ []) ++ ('U' ∷ tab ∷ '0' ∷ tab ∷ '2' ∷ tab ∷ '7' ∷ feed ∷ [])) ≡ header_text ++ ('1' ∷ tab ∷ 'F' ∷ tab ∷ '0' ∷ tab ∷ '-' ∷ feed ∷ []) ++ ('2' ∷ tab ∷ 'U' ∷ tab ∷ '7' ∷ tab ∷ '-' ∷ feed ∷ []) ++ ('3' ∷ tab ∷ 'U' ∷ tab ∷ '7' ∷ tab ∷ '-' ∷ feed ∷ [])
unfolding lines_of answers fields all_digits value_after is_number all_numbers drilled formed meaning spelled answer_text next value_of value_read steps_from cause causes first_standing bad_record any_under bit_of with_bit contains inserted strays digit_of unheld holds holds_any held_from with_digit effect step format_step recovery_step acts numbers_under perform_act perform_first stores_epoch advance advance_of line_of with_line field_index field_of with_field
k12 = refl

-- "p 99999", with a tab for the blank: the fault program has no such room.
abbrev roomy : List ℕ
roomy = 'p' ∷ tab ∷ '9' ∷ '9' ∷ '9' ∷ '9' ∷ '9' ∷ []

-- "S", then "A 0" with a blank and an empty line: what is told is of line 2. Then the line above, in the drill, which has no such letter, and in the fault program.
abbrev wrong : List ℕ
wrong = 'S' ∷ feed ∷ 'A' ∷ blank ∷ '0' ∷ feed ∷ feed ∷ roomy

pub sample-misread : misread_in Drill wrong ∷ misread_in Drill roomy ∷ misread_in Fault roomy ∷ misread_in Page ('S' ∷ []) ∷ [] ≡ misread 3 2 (reason_number Blanks) ∷ misread 1 1 (reason_number Letter) ∷ misread 1 1 (reason_number Unfit) ∷ none_misread ∷ []
unfolding lines_of misread_after fields all_digits value_after is_number all_numbers drilled damaging formed meaning first later stands_in unlettered field_reason fields_reason form_reason unknown_reason next cause causes first_standing
sample-misread = refl
