-- A text that the examples read: that of a memory of two lines.
use Prim.Native.Nat.{ℕ}
use mathlib.Core.List.{List, [], ◌∷◌}
use Rattle.board.specs.Hex.{hex_text}

-- Epoch 7, L = 2 and W = 1, cell 1 with record 5, cell 3 with record 6, and no marks.
unfoldable pub words : List ℕ
words = 7 ∷ 2 ∷ 1 ∷ 0 ∷ 0 ∷ 0 ∷ 0 ∷ 0 ∷ 0 ∷ 0 ∷ 0 ∷ 5 ∷ 0 ∷ 0 ∷ 0 ∷ 0 ∷ 0 ∷ 0 ∷ 0 ∷ 6 ∷ 0 ∷ 0 ∷ 0 ∷ 0 ∷ []

-- It as it is written.
unfoldable pub text : List ℕ
text = hex_text words
