-- `hex::writing::put_byte` meets its contract: a byte's pair of characters.
use native.Mathlib.Omega.{arith}
use Rattle.intel_hex.proofs.Lanes.{byte-text}
use Rattle.intel_hex.proofs.Written.{written_as}
use Rattle.intel_hex.proofs.writing.put_byte.Goals as goal

pub returns : goal.returns
returns c =
    let byte = c.args.byte in
    (written_as c.put_pair.ensures.0 (byte-text byte c.characters.result (omega arith) c.characters.ensures), c.put_pair.ensures.1)
