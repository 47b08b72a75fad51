-- `hex::reading::measure` meets its contract. The invariant: the records before `rest` are looked through.
use lib.ListN.{length}
use Rattle.intel_hex.proofs.Measuring.{Measuring}
use Rattle.intel_hex.proofs.reading.measure.Given as goal

abbrev pub invariant-loop-n : goal.invariant-loop-n
invariant-loop-n l = Measuring l.text l.rest l.address

abbrev pub decreases-loop-n : goal.decreases-loop-n
decreases-loop-n l = length l.rest
