-- A shifted 1 is the power of two.
use mathlib.Core.Path.{ap, ◌∙◌}
use Prim.Native.Nat.{◌^◌}
use native.Mathlib.Omega.{arith}
use native.Mathlib.Nat.{one-mul}
use lib.Bits.{bit_or}
use lib.Pow.{shl_exact}
use Rattle.bitset.proofs.Bits.{or-bit}
use Rattle.bitset.proofs.with_bit.Goals as goal

pub returns : goal.returns
returns c =
    let w = c.args.word in
    let b = c.args.b in
    ap (bit_or w) (shl_exact {a = 1} 1 b 64 (omega arith) (omega arith) ∙ one-mul (2 ^ b)) ∙ or-bit w b
