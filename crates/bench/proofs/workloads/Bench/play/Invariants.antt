-- The cell drawn is the board's.
use Rattle.std.proofs.Common.{◌<◌}
use Rattle.board.specs.Board.{shaped, cells}
use Rattle.bench.proofs.workloads.Bench.play.Given as goal

abbrev pub invariant-loop-k : goal.invariant-loop-k
invariant-loop-k l = l.drawn.cell < cells (shaped l.plan.lines)
