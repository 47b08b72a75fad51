-- `console::input::skip_quiet` meets its contract. The invariant: the line that goes on at `from` goes on at `i`.
use Rattle.std.proofs.Common.{◌-◌, length}
use Rattle.console.specs.Pieces.{LineGoesOn}
use Rattle.console.proofs.input.skip_quiet.Given as goal

abbrev pub invariant-loop-i : goal.invariant-loop-i
invariant-loop-i l = LineGoesOn l.text l.from l.i

abbrev pub decreases-loop-i : goal.decreases-loop-i
decreases-loop-i l = length l.text - l.i
