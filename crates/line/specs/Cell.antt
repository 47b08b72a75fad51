-- Document 01, "Lines and cells": where a cell's record, backup and mark stand.
use Rattle.std.specs.Prelude.{ℕ, ◌+◌, ◌*◌, ◌/◌, ◌%◌, List, get_or, set}
use Rattle.line.specs.declared.Field.{Field}
use Rattle.line.specs.declared.Field.TheVariants.{Record, Backup, Mark}
use Rattle.line.specs.Line.{line_start}

-- "Cell c stands in line 1 + (c div 2)".
abbrev pub cell_line : ℕ → ℕ
cell_line c = 1 + c / 2

-- "from word 3×(c mod 2)".
abbrev pub cell_word : ℕ → ℕ
cell_word c = 3 * (c % 2)

-- "record, backup, mark": the order of a cell's three words.
abbrev pub field_offset : Field → ℕ
field_offset Record = 0
field_offset Backup = 1
field_offset Mark = 2

-- The index in a row of a field of cell `c`.
unfoldable pub field_index : ℕ → Field → ℕ
field_index c field = line_start (cell_line c) + (cell_word c + field_offset field)

-- A field of cell `c`, read in a row.
unfoldable pub field_of : List ℕ → ℕ → Field → ℕ
field_of row c field = get_or row (field_index c field) 0

-- The row with `value` stored in a field of cell `c`.
unfoldable pub with_field : List ℕ → ℕ → Field → ℕ → List ℕ
with_field row c field value = set row (field_index c field) value
