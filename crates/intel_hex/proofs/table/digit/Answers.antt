-- `hex::table::digit` meets its contract: the whole table passes the test.
use mathlib.Core.Path.{refl}
use native.Mathlib.Omega.{arith}
use Rattle.predicate.specs.Passing.{any_under}
use Rattle.intel_hex.specs.declared.table.TheConstants.{DIGITS}
use Rattle.intel_hex.proofs.Digits.{digit-table}
use Rattle.intel_hex.proofs.table.digit.Goals as goal

pub returns : goal.returns
unfolding any_under
returns c = digit-table DIGITS refl c.args.c (omega arith)
