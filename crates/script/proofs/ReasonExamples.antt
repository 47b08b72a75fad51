-- Worked examples of why a line is answered `?`, computed: each reason alone, and lines that two reasons fit.
use mathlib.Core.Path.{◌≡◌, refl}
use mathlib.Core.List.{List, [], ◌∷◌, ◌++◌, map}
use Prim.Native.Nat.{ℕ}
use lib.ListN.{replicate}
use Rattle.script.specs.declared.Program.{Program}
use Rattle.script.specs.declared.Program.TheVariants.{Drill, Fault, Page, Hex}
use Rattle.script.specs.declared.Reason.{Reason}
use Rattle.script.specs.declared.Reason.TheVariants.{Long, ByteOrderMark, CarriageReturn, Blanks, Empty, Letter, Past, NoNumber, Count, Unfit}
use Rattle.text.specs.Ascii.{tab, blank, '-', '0', '9', 'A', 'B', 'G', 'K', 'S', 'T', 'U'}
use Rattle.text.specs.Numbers.{all_digits, value_after}
use Rattle.script.specs.Grammar.{fields, is_number, all_numbers, drilled, damaging, formed, meaning}
use Rattle.script.specs.Fields.{first, later}
use Rattle.script.specs.Reasons.{carriage_return, stands_in, unlettered, field_reason, fields_reason, form_reason, unknown_reason, reason}

-- A line of a program's script, and why it is answered `?`.
pub record ReasonExample : Type 0 where
  pub program : Program
  pub text : List ℕ
  pub why : Reason

abbrev row : Program → List ℕ → Reason → ReasonExample
row program text why = record { program = program; text = text; why = why }

-- "18446744073709551616", 2^64.
abbrev past : List ℕ
past = 49 ∷ 56 ∷ 52 ∷ 52 ∷ 54 ∷ 55 ∷ 52 ∷ 52 ∷ 48 ∷ 55 ∷ 51 ∷ 55 ∷ 48 ∷ 57 ∷ 53 ∷ 53 ∷ 49 ∷ 54 ∷ 49 ∷ 54 ∷ []

abbrev pub reason_examples : List ReasonExample
reason_examples =
    -- 80 bytes: blanks, and a byte-order mark before zeros.
    row Drill (replicate 80 blank) Long ∷
    row Drill (239 ∷ 187 ∷ 191 ∷ replicate 77 '0') Long ∷
    -- The marks of UTF-8 and of UTF-16 in both orders, before "S"; two bytes of the first are none.
    row Drill (239 ∷ 187 ∷ 191 ∷ 'S' ∷ []) ByteOrderMark ∷
    row Drill (255 ∷ 254 ∷ 'S' ∷ []) ByteOrderMark ∷
    row Drill (254 ∷ 255 ∷ 'S' ∷ []) ByteOrderMark ∷
    row Drill (239 ∷ 187 ∷ 'S' ∷ []) Letter ∷
    -- A byte-order mark, a blank and a carriage return.
    row Drill (239 ∷ 187 ∷ 191 ∷ 'A' ∷ blank ∷ '0' ∷ carriage_return ∷ []) ByteOrderMark ∷
    -- "A 0" with a blank and a carriage return, then with the blank alone.
    row Drill ('A' ∷ blank ∷ '0' ∷ carriage_return ∷ []) CarriageReturn ∷
    row Drill ('A' ∷ blank ∷ '0' ∷ []) Blanks ∷
    row Drill [] Empty ∷
    -- A small letter, two letters, a tab first, a letter of the fault program.
    row Drill (115 ∷ []) Letter ∷
    row Drill ('S' ∷ 'S' ∷ []) Letter ∷
    row Drill (tab ∷ 'S' ∷ []) Letter ∷
    row Page ('T' ∷ []) Letter ∷
    row Hex ('T' ∷ []) Letter ∷
    row Fault ('T' ∷ tab ∷ '0' ∷ []) Count ∷
    -- 2^64, and a field that is no number before or behind it.
    row Drill ('G' ∷ tab ∷ past) Past ∷
    row Drill ('G' ∷ tab ∷ '-' ∷ tab ∷ past) NoNumber ∷
    row Drill ('G' ∷ tab ∷ (past ++ tab ∷ '-' ∷ [])) Past ∷
    -- "G" and two fields, the second empty.
    row Drill ('G' ∷ tab ∷ '0' ∷ tab ∷ []) NoNumber ∷
    -- A number too few, one too many, six.
    row Drill ('U' ∷ tab ∷ '0' ∷ tab ∷ '0' ∷ []) Count ∷
    row Drill ('S' ∷ tab ∷ '0' ∷ []) Count ∷
    row Fault ('K' ∷ tab ∷ '0' ∷ tab ∷ '0' ∷ tab ∷ '0' ∷ tab ∷ '0' ∷ tab ∷ '0' ∷ tab ∷ '9' ∷ []) Count ∷
    -- "B 0 9": there is no such phase.
    row Fault ('B' ∷ tab ∷ '0' ∷ tab ∷ '9' ∷ []) Unfit ∷
    []

pub reasons-told : map (λ (e : ReasonExample). reason e.program e.text (meaning e.program e.text)) reason_examples ≡
    map (λ (e : ReasonExample). e.why) reason_examples
unfolding fields first later stands_in unlettered field_reason fields_reason form_reason unknown_reason all_digits value_after is_number all_numbers drilled damaging formed meaning
reasons-told = refl
