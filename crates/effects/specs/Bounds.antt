-- What a passed cause table gives: the bounds that the functions behind the calls ask for.
use Rattle.std.specs.Prelude.{ℕ, ◌+◌, ◌≤◌, ◌<◌, ◌≡◌, true, false, List, length}
use Rattle.bitset.specs.Words.{strays}
use Rattle.board.specs.declared.State.{State}
use Rattle.line.specs.Line.{line_start}
use Rattle.line.specs.Cell.{cell_line}
use Rattle.board.specs.Board.{shape_of, cells, row_words, lines_of, workers_of, epoch_of, last_epoch}
use Rattle.board.specs.State.{dirty_count}

-- Rows of the lengths that the record's L asks, L within its limits.
pub record Rows (s : State) (memory cache : List ℕ) : Type 0 where
  pub limit : s.lines ≤ 511
  pub in_memory : length memory ≡ row_words s.lines
  pub in_cache : length cache ≡ row_words s.lines

-- A recovery can start: two rows of one length, with a header within the limits.
pub record Restarts (memory cache : List ℕ) : Type 0 where
  pub rows : length cache ≡ length memory
  pub header : 8 ≤ length memory
  pub lines : lines_of memory ≤ 511
  pub workers : workers_of memory ≤ 8

-- A format's place is a line, or one past the last.
pub record Formats (s : State) (memory cache : List ℕ) : Type 0 where
  pub rows : Rows s memory cache
  pub place : s.place ≤ s.lines + 1

-- A recovery's place is a cell.
pub record Recovers (s : State) (memory cache : List ℕ) : Type 0 where
  pub rows : Rows s memory cache
  pub place : s.place < cells (shape_of s)

-- A request stands; every dirty line is one of lines 1 to L; a checkpoint's place is that of a dirty line, the epoch's store with a next epoch, or one of the two steps after it.
pub record Checkpoints (s : State) (memory cache : List ℕ) : Type 0 where
  pub rows : Rows s memory cache
  pub request : s.requested ≡ true
  pub lines : strays s.dirty s.lines ≡ false
  pub place : s.place ≤ dirty_count s + 2
  pub epoch : s.place ≡ dirty_count s → epoch_of cache ≡ last_epoch → ⊥

-- A worker and a cell that are there, with a bit for the cell's line.
pub record Stores (cache : List ℕ) (worker cell : ℕ) : Type 0 where
  pub by_worker : worker < 8
  pub of_cell : line_start (cell_line cell) + 8 ≤ length cache
  pub of_bit : cell_line cell < 512
