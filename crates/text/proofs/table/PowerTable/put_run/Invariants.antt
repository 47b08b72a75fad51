-- `PowerTable::put_run` meets its contract: `DigitRun` at each place.
use Rattle.text.proofs.Running.{DigitRun}
use Rattle.text.proofs.table.PowerTable.put_run.Given as goal

abbrev pub invariant-loop-k : goal.invariant-loop-k
invariant-loop-k l = DigitRun l.initial.out l.end l.from l.to l.scale l.s l.out l.left l.k
