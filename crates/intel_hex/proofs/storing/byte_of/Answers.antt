-- `hex::storing::byte_of` meets its contract.
use native.Mathlib.Omega.{arith}
use Rattle.intel_hex.proofs.Digits.{by_digits}
use Rattle.intel_hex.proofs.storing.byte_of.Goals as goal

pub returns : goal.returns
returns c = omega (arith, c.digit.ensures, c.digit-2.ensures, by_digits c.args.high c.args.low c.requires)
