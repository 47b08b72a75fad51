-- `hex::writing::put_head` meets its contract: a colon, and the digits of four bytes behind it.
use native.Mathlib.Omega.{arith}
use Rattle.board.specs.Hex.{bytes_text}
use Rattle.intel_hex.proofs.Written.{follows}
use Rattle.intel_hex.proofs.writing.put_head.Goals as goal

pub returns : goal.returns
unfolding bytes_text
returns c =
    let colon = c.put_byte.ensures in
    let count = follows colon c.put_byte-2.ensures.0 (omega (arith, colon.put.ends)) in
    let high = follows count c.put_byte-3.ensures.0 (omega (arith, colon.put.ends)) in
    let low = follows high c.put_byte-4.ensures.0 (omega (arith, colon.put.ends)) in
    (follows low c.put_byte-5.ensures.0 (omega (arith, colon.put.ends)), omega (arith, colon.put.ends))
