-- A cell's mark against an epoch, in the part of a row that is its line.
use Rattle.std.specs.Prelude.{ℕ, ◌+◌, ◌*◌, Bool, List, ltb, get_or}
use Rattle.line.specs.declared.Field.TheVariants.{Mark}
use Rattle.line.specs.Cell.{field_offset}

-- In a line's eight words, the mark of the cell whose number mod 2 is `half` is greater than the epoch.
abbrev pub later_at : ℕ → List ℕ → ℕ → Bool
later_at epoch part half = ltb epoch (get_or part (3 * half + field_offset Mark) 0)
