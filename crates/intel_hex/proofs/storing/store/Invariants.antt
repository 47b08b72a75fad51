-- `hex::storing::store` meets its contract. The invariant: the records before `rest` are stored.
use lib.ListN.{length}
use Rattle.intel_hex.proofs.Filling.{Storing}
use Rattle.intel_hex.proofs.storing.store.Given as goal

abbrev pub invariant-loop-data : goal.invariant-loop-data
invariant-loop-data l = Storing l.text l.initial.row l.row l.rest l.from

abbrev pub decreases-loop-data : goal.decreases-loop-data
decreases-loop-data l = length l.rest
