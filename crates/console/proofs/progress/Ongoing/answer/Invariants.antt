-- `Ongoing::answer` meets its contract. The invariant: what is reached is what the piece up to `at` leaves.
use Rattle.std.proofs.Common.{◌≡◌, ◌-◌, ◌*◌, ◌≤◌, length, take}
use Rattle.console.specs.Pieces.{leaving, fed, carried_by, SameBuffers}
use Rattle.console.proofs.progress.Ongoing.answer.Given as goal

abbrev pub invariant-loop-at : goal.invariant-loop-at
invariant-loop-at l = record {
  at_within : l.at ≤ length l.piece;
  end_within : l.end ≤ 65536;
  goes_on : l.end ≤ 65536 * l.at;
  so_far : leaving (carried_by l.reached l.buffers) (take l.end l.buffers.out.now) ≡ fed l.program (carried_by l.fn.self l.fn.buffers) (take l.at l.piece);
  same : SameBuffers l.fn.buffers l.buffers;
}

abbrev pub decreases-loop-at : goal.decreases-loop-at
decreases-loop-at l =
    length l.piece - l.at
