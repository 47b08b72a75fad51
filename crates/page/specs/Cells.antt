-- What the contracts of the private functions that write lines cite.
use Rattle.std.specs.Prelude.{ℕ, ◌+◌, ◌<◌, ◌≤◌, List, length, get_or}
use Rattle.line.specs.Line.{line_start}
use Rattle.line.specs.Cell.{cell_line}

-- The cache holds cell `c`, whose number has four digits at most.
pub record InCache (cache : List ℕ) (c : ℕ) : Type 0 where
  pub short : c < 10000
  pub inside : line_start (cell_line c) + 8 ≤ length cache

-- The cache holds every cell of the list.
abbrev pub AllInCache : List ℕ → List ℕ → Type 0
AllInCache cache cells = (i : ℕ) → i < length cells → InCache cache (get_or cells i 0)

-- The cache holds every cell below `n`.
abbrev pub InCacheUnder : List ℕ → ℕ → Type 0
InCacheUnder cache n = (c : ℕ) → c < n → InCache cache c
