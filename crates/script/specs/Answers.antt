-- Document 01, "The drill program": what is written. "Output: a header, then for each line its number from 1, call, answer, and the value read or -."
use Rattle.std.specs.Prelude.{ℕ, List, [], ◌∷◌, ◌++◌}
use Rattle.script.specs.declared.Shown.{Shown}
use Rattle.script.specs.declared.Shown.TheVariants as shown
use Rattle.text.specs.Ascii.{tab, feed, '-', '?'}
use Rattle.text.specs.Numbers.{number_text}

-- "the value read or -"; `?` for what is unknown.
abbrev pub shown_text : Shown → List ℕ
shown_text shown.Unknown = '?' ∷ []
shown_text shown.Nothing = '-' ∷ []
shown_text (shown.Number n) = number_text n

-- One line of the answer: line number, call, answer and value, parted by tabs.
unfoldable pub answer_text : ℕ → ℕ → Shown → Shown → List ℕ
answer_text number call answer value =
    number_text number ++ (tab ∷ []) ++ (call ∷ []) ++ (tab ∷ []) ++ shown_text answer ++ (tab ∷ []) ++ shown_text value ++ (feed ∷ [])

-- "line call answer value".
abbrev pub header_text : List ℕ
header_text =
    (108 ∷ 105 ∷ 110 ∷ 101 ∷ []) ++ (tab ∷ []) ++ (99 ∷ 97 ∷ 108 ∷ 108 ∷ []) ++ (tab ∷ []) ++ (97 ∷ 110 ∷ 115 ∷ 119 ∷ 101 ∷ 114 ∷ []) ++ (tab ∷ []) ++ (118 ∷ 97 ∷ 108 ∷ 117 ∷ 101 ∷ []) ++ (feed ∷ [])

-- The call column: the line's own first byte, `?` where the answer is `?`.
abbrev pub letter_of : ℕ → Shown → ℕ
letter_of first shown.Unknown = '?'
letter_of first shown.Nothing = first
letter_of first (shown.Number n) = first
