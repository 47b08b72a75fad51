-- `page::lines::put_cells` meets its contract. The invariant: the lines of the cells so far are written.
use Prim.Native.Nat.{ℕ, ◌+◌, ◌*◌}
use mathlib.Core.Path.{◌≡◌}
use mathlib.Core.List.{List, map, flatten}
use lib.ListN.{take}
use Rattle.text.specs.Writing.{Put}
use Rattle.board.specs.Page.{cell_text}
use Rattle.page.proofs.lines.put_cells.Given as goal

-- The lines of some cells.
abbrev pub lines_of : List ℕ → List ℕ → List ℕ
lines_of cache cells = flatten (map (cell_text cache) cells)

abbrev pub invariant-loop-cell : goal.invariant-loop-cell
invariant-loop-cell l =
    (l.end ≡ 68 * (l.cell-index + 1)) × Put l.initial.text 68 (lines_of l.cache (take l.cell-index l.cells)) l.text l.end
