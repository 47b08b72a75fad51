-- `hex::writing::put_word` meets its contract: the digits of its two halves, one behind the other.
use Prim.Native.Nat.{◌/◌, ◌%◌}
use mathlib.Core.Path.{sym, ap, ◌∙◌}
use native.Mathlib.Omega.{arith}
use Rattle.board.specs.Hex.{bytes_text, low_bytes}
use Rattle.intel_hex.proofs.Lanes.{eight-bytes}
use Rattle.intel_hex.proofs.Written.{digits_append, written_as, follows}
use Rattle.intel_hex.proofs.writing.put_word.Goals as goal

pub returns : goal.returns
returns c =
    let word = c.args.word in
    let both = follows c.put_half.ensures.0 c.put_half-2.ensures.0 (omega arith) in
    let text = ap bytes_text (eight-bytes word) ∙ digits_append (low_bytes 4 (word % 4294967296)) (low_bytes 4 (word / 4294967296)) in
    (written_as both (sym text), omega arith)
