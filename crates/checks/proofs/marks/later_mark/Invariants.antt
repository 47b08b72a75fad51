-- The invariant: found is what the lines before this one have.
use Prim.Native.Nat.{◌-◌}
use mathlib.Core.Path.{◌≡◌}
use Rattle.checks.proofs.Walk.{later_within}
use Rattle.checks.proofs.marks.later_mark.Given as goal

abbrev pub invariant-loop-line : goal.invariant-loop-line
invariant-loop-line l = l.found ≡ later_within l.epoch l.row (l.line - 1)
