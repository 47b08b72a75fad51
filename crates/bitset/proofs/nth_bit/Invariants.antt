-- Each round clears the lowest set bit of what is left of the word.
use Rattle.std.proofs.Common.{◌-◌}
use Rattle.bitset.proofs.Swept.{Swept}
use Rattle.bitset.proofs.nth_bit.Given as goal

abbrev pub invariant-loop : goal.invariant-loop
invariant-loop l = Swept l.word l.p l.rest (l.p - l.counter)
