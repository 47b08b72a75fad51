-- What recovery's start knows of memory once the rows and the header have passed.
use Prim.Native.Nat.{ℕ, ◌≤◌}
use mathlib.Core.Path.{◌≡◌, refl, sym, ap, ◌∙◌}
use mathlib.Core.Bool.{Bool, true, false, cond, ◌||◌, false≢true}
use lib.ListN.{length}
use Rattle.board.specs.declared.Call.TheVariants.{RecoveryStart}
use Rattle.board.specs.Board.{Board, shape_in, row_words, epoch_of, lines_of, workers_of}
use Rattle.board.specs.Causes.{cause, causes, first_standing, bad_recovery_rows, bad_header, later_mark}
use Rattle.predicate.proofs.Bools.{or_left, or_right, passed_over}
use Rattle.board.proofs.Laws.Taken.{limits-in}
use Rattle.board.proofs.Recovery.Board.{header-passed, rows-passed}

-- Rows and a header that pass: both rows have the length that the header's L asks, within the limits.
pub record WholeMemory (b : Board) : Type 0 where
  pub memory : length b.memory ≡ row_words (lines_of b.memory)
  pub cache : length b.cache ≡ length b.memory
  pub lines : lines_of b.memory ≤ 511
  pub workers : workers_of b.memory ≤ 8

pub whole : (b : Board) → bad_recovery_rows b ≡ false → bad_header b.memory ≡ false → WholeMemory b
whole b r h =
    let z = rows-passed b r h in
    let limits = limits-in (shape_in b.memory) (workers_of b.memory) (header-passed b.memory h).limits in
    record {
      memory = z.memory.size;
      cache = z.cache.size ∙ sym z.memory.size;
      lines = limits.lines;
      workers = limits.eight;
    }
