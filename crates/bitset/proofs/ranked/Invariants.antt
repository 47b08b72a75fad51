-- The words before the number's own are passed over by their counts.
use Rattle.std.proofs.Common.{◌≡◌, ◌+◌, ◌*◌}
use Rattle.predicate.specs.Passing.{count_under}
use Rattle.bitset.specs.Words.{contains}
use Rattle.bitset.proofs.ranked.Given as goal

-- Come to word `k`, the walk has `left` numbers to pass over from there.
abbrev pub invariant-loop-k : goal.invariant-loop-k
invariant-loop-k l = count_under (64 * l.k) (contains l.words) + l.left ≡ l.p
