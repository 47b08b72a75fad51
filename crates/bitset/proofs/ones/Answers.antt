-- The count of the digits that are 1 is that of the bits that are set.
use Rattle.std.proofs.Common.{◌∙◌, arith}
use Rattle.bitset.proofs.Bits.{ones-count}
use Rattle.bitset.proofs.ones.Goals as goal

pub returns-clause-value : goal.returns-clause-value
returns-clause-value c = c.from.ensures ∙ ones-count 64 c.args.word (omega arith)
