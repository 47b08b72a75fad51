-- `hex::writing::put_pair` meets its contract: two bytes are two characters written.
use native.Mathlib.Omega.{arith}
use Rattle.board.specs.Hex.{low_bytes}
use Rattle.intel_hex.proofs.Written.{follows}
use Rattle.intel_hex.proofs.writing.put_pair.Goals as goal

pub returns : goal.returns
unfolding low_bytes
returns c = (follows c.put_byte.ensures c.put_byte-2.ensures (omega (arith, c.put_byte.ensures.put.ends)), omega (arith, c.put_byte.ensures.put.ends, c.put_byte-2.ensures.put.ends))
