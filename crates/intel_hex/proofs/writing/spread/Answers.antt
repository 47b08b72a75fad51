-- `hex::writing::spread` meets its contract.
use mathlib.Core.Path.{refl}
use native.Mathlib.Omega.{arith}
use Rattle.intel_hex.proofs.Lanes.{spread-bytes}
use Rattle.intel_hex.proofs.writing.spread.Goals as goal

pub returns : goal.returns
returns c = spread-bytes c.args.half _ (omega arith) refl
