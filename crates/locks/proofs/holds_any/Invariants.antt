-- The digits are tested from the lowest up.
use Prim.Native.Nat.{ℕ, suc, ◌≤◌}
use mathlib.Core.Path.{◌≡◌}
use mathlib.Core.Bool.{Bool, ◌||◌}
use lib.Dec.{eqb}
use Rattle.locks.proofs.Holders.{any_digit}
use Rattle.locks.proofs.holds_any.Given as goal

-- A worker's own digit.
abbrev pub own : ℕ → ℕ → Bool
own worker digit = eqb digit (suc worker)

abbrev pub invariant-loop-rest : goal.invariant-loop-rest
invariant-loop-rest l = (l.rest ≤ l.holders) × (l.found || any_digit (own l.worker) l.rest ≡ any_digit (own l.worker) l.holders)

abbrev pub decreases-loop-rest : goal.decreases-loop-rest
decreases-loop-rest l = l.rest
