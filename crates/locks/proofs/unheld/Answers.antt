-- A lock that nobody holds has the digit 0.
use Prim.Native.Nat.{ℕ}
use mathlib.Core.Path.{ap}
use lib.Dec.{eqb}
use Rattle.locks.specs.Holders.{unheld}
use Rattle.locks.proofs.unheld.Goals as goal

pub returns : goal.returns
unfolding unheld
returns c = ap (λ (x : ℕ). eqb x 0) c.digit.ensures.value
