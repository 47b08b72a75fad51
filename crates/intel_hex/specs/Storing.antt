-- What the contracts of the private functions that look a text through and store its words cite.
use Rattle.std.specs.Prelude.{ℕ, ◌+◌, ◌*◌, ◌/◌, ◌^◌, List, [], ◌∷◌, cond, Option, Some, None, ◌≡◌, length, get_or, set}
use Rattle.intel_hex.specs.Lanes.{lanes}
use Rattle.board.specs.Hex.{file, count_of, has_data, has_end, parsed}
use Rattle.intel_hex.specs.declared.reading.Record.{Record}

-- What stands at a text's front: the end record, a data record of so many bytes, or neither.
unfoldable pub front_of : ℕ → List ℕ → Option Record
front_of address text = cond (has_end text) (Some Record.End) (cond (has_data address text) (Some (Record.Data (count_of text))) None)

-- Two characters of a text from `at` on, the first of them low.
abbrev pub two_at : List ℕ → ℕ → ℕ
two_at text at = get_or text at 0 + 256 * get_or text (at + 1) 0

-- Its first eight, two by two.
unfoldable pub eight_of : List ℕ → ℕ
eight_of text = lanes (two_at text 0) (two_at text 2) (two_at text 4) (two_at text 6)

-- A byte shifted into a word from above: after eight of them nothing of the old word is left.
abbrev pub shifted_in : ℕ → ℕ → ℕ
shifted_in w b = w / 256 + b * 2 ^ 56

-- A row with bytes shifted into its words, the first of them into the word that has byte `at`.
unfoldable pub stored : List ℕ → ℕ → List ℕ → List ℕ
stored row at [] = row
stored row at (b ∷ bs) = stored (set row (at / 8) (shifted_in (get_or row (at / 8) 0) b)) (at + 1) bs

-- The text is a file of just as many bytes as the row has.
pub record Filling (text row : List ℕ) : Type 0 where
  pub bytes : List ℕ
  pub parses : parsed text ≡ file bytes
  pub fills : length bytes ≡ 8 * length row
