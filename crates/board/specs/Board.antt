-- Document 01, "Lines and cells": the board, its sizes and its header.
use Rattle.std.specs.Prelude.{ℕ, ◌+◌, ◌*◌, ◌-◌, ◌^◌, List, [], ◌∷◌, Bool, not, ◌&&◌, ◌||◌, leb, ltb, eqb, get_or}
use Rattle.board.specs.declared.State.{State}

-- All that a call is given and leaves: the state record and the two lent rows.
pub record Board : Type 0 where
  pub state : State
  pub memory : List ℕ
  pub cache : List ℕ

-- A board's sizes, as its header and its state record have them: L alone so far. What a row holds is counted from them, below and in `Location`.
pub record Shape : Type 0 where
  pub lines : ℕ

-- The shape of a board of L lines.
abbrev pub shaped : ℕ → Shape
shaped l = record { lines = l }

-- The state record's shape.
abbrev pub shape_of : State → Shape
shape_of s = shaped s.lines

-- "Lines 1 to L hold two cells each": the lines that hold cells.
abbrev pub cell_lines : Shape → ℕ
cell_lines σ = σ.lines

-- The number of cells.
abbrev pub cells : Shape → ℕ
cells σ = 2 * cell_lines σ

-- "two rows of words of equal length, 8×(L+1) words".
abbrev pub row_words : ℕ → ℕ
row_words l = 8 * (l + 1)

-- "L, the cell lines, is 1 to 511".
abbrev pub shape_outside : Shape → Bool
shape_outside σ = not (leb 1 σ.lines && leb σ.lines 511)

-- "W, the workers, is 1 to 8, and W < 2L".
abbrev pub workers_outside : Shape → ℕ → Bool
workers_outside σ w = not (leb 1 w && leb w 8 && ltb w (cells σ))

-- "L or W outside the limits above": the limits that causes 1, 3 and 5 test.
abbrev pub outside : Shape → ℕ → Bool
outside σ w = shape_outside σ || workers_outside σ w

-- "Line 0 is the header: word 0 the epoch (0: no board here)".
abbrev pub epoch_of : List ℕ → ℕ
epoch_of row = get_or row 0 0

-- "word 1 L".
abbrev pub lines_of : List ℕ → ℕ
lines_of row = get_or row 1 0

-- The header's shape.
abbrev pub shape_in : List ℕ → Shape
shape_in row = shaped (lines_of row)

-- "word 2 W".
abbrev pub workers_of : List ℕ → ℕ
workers_of row = get_or row 2 0

-- "words 3 to 7 zero": one of them is not.
abbrev pub rest_not_zero : List ℕ → Bool
rest_not_zero row =
    not (eqb (get_or row 3 0) 0 && eqb (get_or row 4 0) 0 && eqb (get_or row 5 0) 0 && eqb (get_or row 6 0) 0 && eqb (get_or row 7 0) 0)

-- The eight words of a header.
abbrev pub header_words : ℕ → Shape → ℕ → List ℕ
header_words epoch σ w = epoch ∷ σ.lines ∷ w ∷ 0 ∷ 0 ∷ 0 ∷ 0 ∷ 0 ∷ []

-- "becomes zeros": the eight words of an erased line.
abbrev pub zero_words : List ℕ
zero_words = 0 ∷ 0 ∷ 0 ∷ 0 ∷ 0 ∷ 0 ∷ 0 ∷ 0 ∷ []

-- "2^64 − 1": the last epoch there can be.
abbrev pub last_epoch : ℕ
last_epoch = 2 ^ 64 - 1
