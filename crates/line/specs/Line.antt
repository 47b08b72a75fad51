-- Document 01, "Lines and cells": a row is read and written by line.
use Rattle.std.specs.Prelude.{ℕ, ◌*◌, List, ◌++◌, take, drop}

-- "A line is 8 words": the index of the first word of line `l`.
abbrev pub line_start : ℕ → ℕ
line_start l = 8 * l

-- "A line's eight words are handed on as a part of the lent row": the words of line `l`.
unfoldable pub line_of : List ℕ → ℕ → List ℕ
line_of row l = take 8 (drop (line_start l) row)

-- The row with line `l` made of the given words.
unfoldable pub with_line : List ℕ → ℕ → List ℕ → List ℕ
with_line row l words = take (line_start l) row ++ (words ++ drop 8 (drop (line_start l) row))
