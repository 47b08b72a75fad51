-- A word is odd where its lowest bit is set.
use mathlib.Core.Path.{sym}
use Rattle.bitset.proofs.Bits.{low_bit}
use Rattle.bitset.proofs.lowest.Goals as goal

pub returns : goal.returns
returns c = sym (low_bit c.args.word)
