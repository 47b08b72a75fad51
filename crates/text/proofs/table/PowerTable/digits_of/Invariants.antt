-- `PowerTable::digits_of` meets its contract: `n` reaches every power below the one where the loop ends.
use Rattle.std.proofs.Common.{◌≤◌, length}
use Rattle.text.specs.Numbers.{number_text}
use Rattle.text.proofs.table.PowerTable.digits_of.Given as goal

abbrev pub invariant-loop-k : goal.invariant-loop-k
invariant-loop-k l = l.k ≤ length (number_text l.n)
