-- Why a line of the script is answered `?`, by the first reason that fits it. Document 01 fixes what standard output has of
-- such a line; what is said of it on standard error is ours.
use Rattle.std.specs.Prelude.{ℕ, ◌≡◌, List, [], ◌∷◌, ◌++◌, map, Bool, true, false, cond, not, ◌&&◌, ◌||◌, ltb, eqb, length, drop, get_or, replicate, Result, MatchResult}
use Rattle.script.specs.declared.Line.{Line}
use Rattle.script.specs.declared.Line.TheVariants as line
use Rattle.script.specs.declared.Program.{Program}
use Rattle.script.specs.declared.Program.TheVariants.{Drill, Fault, Page, Hex}
use Rattle.script.specs.declared.Reason.{Reason}
use Rattle.script.specs.declared.Reason.TheVariants.{Long, ByteOrderMark, CarriageReturn, Blanks, Empty, Letter, Past, NoNumber, Count, Unfit}
use Rattle.script.specs.declared.reasons.UnknownReason.{UnknownReason}
use Rattle.text.specs.Numbers.{all_digits}
use Rattle.text.specs.Ascii.{blank, 'A', 'B', 'C', 'E', 'F', 'G', 'H', 'K', 'M', 'N', 'O', 'P', 'Q', 'R', 'S', 'T', 'U', 'V', 'W', 'X', 'Y', 'a', 'b', 'f', 'h', 'n', 'p', 'y'}
use Rattle.script.specs.Grammar.{is_number, command}
use Rattle.script.specs.Fields.{first, later}

-- The byte of a carriage return.
abbrev pub carriage_return : ℕ
carriage_return = 13

-- A byte stands in a line.
unfoldable pub stands_in : ℕ → List ℕ → Bool
stands_in byte [] = false
stands_in byte (b ∷ bs) = cond (eqb b byte) true (stands_in byte bs)

-- Three bytes begin with a byte-order mark: EF BB BF (UTF-8), FE FF or FF FE (UTF-16).
abbrev pub order_marked : ℕ → ℕ → ℕ → Bool
order_marked a b c = (eqb a 239 && (eqb b 187 && eqb c 191)) || ((eqb a 254 && eqb b 255) || (eqb a 255 && eqb b 254))

-- A line begins with a byte-order mark.
abbrev pub byte_order_mark : List ℕ → Bool
byte_order_mark l = order_marked (get_or l 0 0) (get_or l 1 0) (get_or l 2 0)

-- A line asks for nothing.
abbrev pub is_unknown : Line → Bool
is_unknown (line.Format lines workers) = false
is_unknown (line.Make call) = false
is_unknown (line.Show call) = false
is_unknown line.Cut = false
is_unknown (line.Damage damage) = false
is_unknown (line.Page room) = false
is_unknown (line.Text work) = false
is_unknown line.Unknown = true

-- The drill's letters, which every program has.
abbrev pub drill_letters : List ℕ
drill_letters =
    'F' ∷ 'U' ∷ 'A' ∷ 'P' ∷ 'C' ∷ 'S' ∷ 'E' ∷ 'G' ∷ 'X' ∷ 'R' ∷ 'H' ∷ 'V' ∷ []

-- The letters that the fault program has besides.
abbrev pub fault_letters : List ℕ
fault_letters =
    'f' ∷ 'W' ∷ 'M' ∷ 'N' ∷ 'Q' ∷ 'B' ∷ 'K' ∷ 'O' ∷ 'T' ∷ 'p' ∷ 'a' ∷ 'b' ∷ 'n' ∷ 'h' ∷ 'Y' ∷ 'y' ∷ []

-- The letters of a program.
abbrev pub letters : Program → List ℕ
letters Drill = drill_letters
letters Fault = drill_letters ++ fault_letters
letters Page = drill_letters
letters Hex = drill_letters

-- A line does not begin with one letter of the program and then a tab or its end.
unfoldable pub unlettered : Program → List ℕ → Bool
unlettered program l = not (eqb (length (first l)) 1 && stands_in (get_or l 0 0) (letters program))

-- Why a field that is no number is none: digits alone, one or more, write a number past 2^64 − 1.
unfoldable pub field_reason : List ℕ → Reason
field_reason f = cond (eqb (length f) 0) NoNumber (cond (all_digits f) Past NoNumber)

-- The first field that is no number decides; where all are numbers, there are too few or too many.
unfoldable pub fields_reason : List (List ℕ) → Reason
fields_reason [] = Count
fields_reason (f ∷ fs) = cond (is_number f) (fields_reason fs) (field_reason f)

-- Why a line asks for nothing, by its letter and its fields.
unfoldable pub form_reason : Program → List ℕ → Reason
form_reason program l =
    cond (eqb (length l) 0) Empty (cond (unlettered program l) Letter (fields_reason (later (drop 1 l))))

-- Why a line asks for nothing.
unfoldable pub unknown_reason : Program → List ℕ → Reason
unknown_reason program l =
    cond (ltb 79 (length l)) Long
    (cond (byte_order_mark l) ByteOrderMark
    (cond (stands_in carriage_return l) CarriageReturn (cond (stands_in blank l) Blanks (form_reason program l))))

-- Why a line is answered `?`, from what it asks for: one that asks for something has a number that cannot be put there.
abbrev pub reason : Program → List ℕ → Line → Reason
reason program l asks = cond (is_unknown asks) (unknown_reason program l) Unfit

-- A reason's number, by which it is carried from line to line.
abbrev pub reason_number : Reason → ℕ
reason_number Long = 1
reason_number ByteOrderMark = 2
reason_number CarriageReturn = 3
reason_number Blanks = 4
reason_number Empty = 5
reason_number Letter = 6
reason_number Past = 7
reason_number NoNumber = 8
reason_number Count = 9
reason_number Unfit = 10

-- The reason with a number, or an error with a number that no reason has.
abbrev pub Decodes : ℕ → Result Reason UnknownReason → Type 0
Decodes number r = MatchResult r (λ why. reason_number why ≡ number) (λ e. (e.0 ≡ number) × ((why : Reason) → reason_number why ≡ number → ⊥))

-- ---- what is claimed of the letters

-- A letter that is not listed asks for nothing, whatever its numbers.
abbrev pub Unlisted : Type 0
Unlisted =
    (program : Program) (letter : ℕ) (numbers : List ℕ) → stands_in letter (letters program) ≡ false → command program letter numbers ≡ line.Unknown

-- A letter asks for something with some count of numbers, none to five.
abbrev pub asks_once : Program → ℕ → Bool
asks_once program letter =
    let ignored : List ℕ → Bool = λ numbers. is_unknown (command program letter numbers) in
    not (ignored [] && (ignored (0 ∷ []) && (ignored (0 ∷ 0 ∷ []) && (ignored (0 ∷ 0 ∷ 0 ∷ [])
    && (ignored (0 ∷ 0 ∷ 0 ∷ 0 ∷ []) && ignored (0 ∷ 0 ∷ 0 ∷ 0 ∷ 0 ∷ []))))))

-- Every letter listed asks for something.
abbrev pub Listed : Type 0
Listed = (program : Program) → map (asks_once program) (letters program) ≡ replicate (length (letters program)) true
