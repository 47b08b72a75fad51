-- What is reached is what the piece up to `used` leaves.
use Rattle.std.proofs.Common.{length, take, ◌-◌, ◌≡◌, ◌≤◌}
use Rattle.console.specs.Pieces.{fed, carried_by, SameBuffers}
use Rattle.shell.proofs.converse.Given as goal

abbrev pub invariant-loop-used : goal.invariant-loop-used
invariant-loop-used g l = record {
  within : l.used ≤ length l.piece;
  so_far : carried_by l.reached l.buffers ≡ (fed l.program (carried_by l.fn.progress l.fn.buffers) (take l.used l.piece)).after;
  same : SameBuffers l.fn.buffers l.buffers;
}

abbrev pub decreases-loop-used : goal.decreases-loop-used
decreases-loop-used g l = length l.piece - l.used
