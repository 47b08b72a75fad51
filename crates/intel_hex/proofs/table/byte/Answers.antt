-- `hex::table::byte` meets its contract.
use mathlib.Core.Path.{sym}
use Rattle.intel_hex.proofs.Digits.{digits-write, none_written_lem}
use Rattle.intel_hex.proofs.table.byte.Goals as goal

pub returns-then-h-l : goal.returns-then-h-l
returns-then-h-l c = digits-write c.args.high c.args.low c.digit-h.ensures c.digit-l.ensures c.if-h-l.true

pub returns-else-h-l : goal.returns-else-h-l
returns-else-h-l c = sym (none_written_lem c.args.high c.args.low c.digit-h.ensures c.digit-l.ensures c.if-h-l.false)
