-- The counts of the eight words together are how many numbers the set has, at most 512.
use Rattle.std.proofs.Common.{◌∙◌, arith, rules}
use Rattle.bitset.proofs.Words.{sum-counts, size_room}
use Rattle.bitset.proofs.size.Goals as goal

pub total-requires : goal.total-requires
total-requires c =
    omega (arith, sum-counts c.counted.result c.args.words (search rules) c.counted.ensures.by_index, size_room c.args.words)

pub returns : goal.returns
returns c = c.total.ensures ∙ sum-counts c.counted.result c.args.words (search rules) c.counted.ensures.by_index
