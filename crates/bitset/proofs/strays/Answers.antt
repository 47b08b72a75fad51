-- Bit 0 of the first word, or a number past the last in one of the eight.
use mathlib.Core.Bool.{◌||◌}
use Rattle.predicate.specs.Passing.{any_under}
use Rattle.bitset.specs.Words.{strays}
use Rattle.bitset.proofs.strays.Goals as goal

pub returns : goal.returns
unfolding strays any_under
returns c = λ i. c.lowest.ensures i || c.past.ensures i
