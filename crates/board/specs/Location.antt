-- What a checkpoint keeps and a recovery brings back (document 01, "Lines and cells" and "Steps"): locations, each of which holds one value, and the stops of a recovery, each of which has a log of its own. Both are cells here.
use Rattle.std.specs.Prelude.{ℕ, ◌<◌, List, Bool, cond, eqb}
use Rattle.line.specs.declared.Field.{Field}
use Rattle.line.specs.Cell.{cell_line, field_of, with_field}
use Rattle.board.specs.Board.{Shape, cells, epoch_of}

-- ---- locations

-- What holds a value.
pub data Location : Type 0 where
  cell : ℕ → Location

-- A board of shape `σ` has the location.
abbrev pub Has : Shape → Location → Type 0
Has σ (cell c) = c < cells σ

-- Two locations are one.
abbrev pub same_location : Location → Location → Bool
same_location (cell c) (cell d) = eqb c d

-- The line that the location stands in.
abbrev pub line_for : Location → ℕ
line_for (cell c) = cell_line c

-- "Read gives a cell's record": the location's value.
abbrev pub value_in : List ℕ → Location → ℕ
value_in row (cell c) = field_of row c Field.Record

-- Its old value, where one is logged.
abbrev pub old_in : List ℕ → Location → ℕ
old_in row (cell c) = field_of row c Field.Backup

-- "a cell whose mark equals the epoch": the old value is logged in this epoch.
abbrev pub logged : List ℕ → Location → Bool
logged row (cell c) = eqb (field_of row c Field.Mark) (epoch_of row)

-- 02, ticket 4, a memory's "own undo": the old value where it is logged in this epoch, else the value.
abbrev pub undo : List ℕ → Location → ℕ
undo row u = cond (logged row u) (old_in row u) (value_in row u)

-- A function of locations changed at one.
unfoldable pub changed_at {ℓ} : {A : Type ℓ} → (Location → A) → Location → A → Location → A
changed_at f u a t = cond (same_location t u) a (f t)

-- ---- a recovery's stops

-- Where a recovery stops: what has a log of its own.
pub data Stop : Type 0 where
  at_cell : ℕ → Stop

-- "cells from 0 up": how many stops a recovery has.
abbrev pub stops : Shape → ℕ
stops σ = cells σ

-- The stop at a recovery's place.
abbrev pub stop_at : Shape → ℕ → Stop
stop_at σ place = at_cell place

-- The line that is written back there.
abbrev pub stop_line : Stop → ℕ
stop_line (at_cell c) = cell_line c

-- "a cell whose mark equals the epoch": there is something to undo.
abbrev pub undoes : List ℕ → Stop → Bool
undoes row (at_cell c) = logged row (cell c)

-- "record := backup": the old value put back.
abbrev pub restored : List ℕ → Stop → List ℕ
restored row (at_cell c) = with_field row c Field.Record (field_of row c Field.Backup)

-- "mark := 0": the log dropped.
abbrev pub unmarked : List ℕ → Stop → List ℕ
unmarked row (at_cell c) = with_field row c Field.Mark 0
