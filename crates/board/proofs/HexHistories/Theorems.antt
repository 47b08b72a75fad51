-- THE THEOREM on reading HEX text into a board's row: `specs/HexHistories.antt`, proved.
use Rattle.board.specs.HexHistories.{ReadingEndsPromises}
use Rattle.board.proofs.HexHistories.Begins.{memory-read, memory-recovered, begins-by-recovery, begins-by-format}
use Rattle.board.proofs.HexHistories.FormatBefore.{format-before}
use Rattle.board.proofs.HexHistories.InHistory.{in-history, cache-in-history}

-- A reading ends what demands 2 and 3 promise, until one of the two beginnings.
pub reading-ends-promises : ReadingEndsPromises
reading-ends-promises =
    record {
      memory_read = memory-read;
      memory_recovered = memory-recovered;
      by_recovery = begins-by-recovery;
      by_format = begins-by-format;
      format_before = format-before;
      in_history = in-history;
      cache_in_history = cache-in-history;
    }
