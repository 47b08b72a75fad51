-- What the contracts of the functions of `src/fields.rt` cite: one field, and the fields after the letter.
use Rattle.std.specs.Prelude.{ℕ, List, [], ◌∷◌, map, cond, ◌&&◌, leb, eqb, length, Option, Some, None}
use Rattle.text.specs.Ascii.{tab}
use Rattle.text.specs.Numbers.{value}
use Rattle.script.specs.Grammar.{fields, is_number, all_numbers}

-- The bytes before the first tab.
unfoldable pub first : List ℕ → List ℕ
first [] = []
first (b ∷ bs) = cond (eqb b tab) [] (b ∷ first bs)

-- The fields after a tab at the front; none where nothing is left.
unfoldable pub later : List ℕ → List (List ℕ)
later [] = []
later (b ∷ bs) = fields bs

-- A field read as a number.
unfoldable pub number_of : List ℕ → Option ℕ
number_of f = cond (is_number f) (Some (value f)) None

-- The fields read as numbers, five at most.
unfoldable pub numbers_of : List (List ℕ) → Option (List ℕ)
numbers_of fs = cond (all_numbers fs && leb (length fs) 5) (Some (map value fs)) None

-- The letter that a line's fields begin with: the first of them, where that is one byte.
unfoldable pub lone_letter : List (List ℕ) → Option ℕ
lone_letter [] = None
lone_letter ([] ∷ fs) = None
lone_letter ((letter ∷ []) ∷ fs) = Some letter
lone_letter ((a ∷ b ∷ more) ∷ fs) = None
