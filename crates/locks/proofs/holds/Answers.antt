-- A worker past 14 has no digit, and holds nothing.
use Prim.Native.Nat.{suc}
use mathlib.Core.Path.{sym, ap₂}
use native.Mathlib.Omega.{arith}
use native.Mathlib.Numerals.{add-one}
use lib.Dec.{eqb}
use borrow.Author.Tests.{ne_eqb}
use Rattle.locks.specs.Holders.{holds, digit_of}
use Rattle.locks.proofs.Holders.{digit_lt}
use Rattle.locks.proofs.holds.Goals as goal

pub returns-then-worker-lt15 : goal.returns-then-worker-lt15
unfolding holds
returns-then-worker-lt15 c = ap₂ eqb c.digit.ensures.value (add-one c.args.worker)

pub returns-else-worker-lt15 : goal.returns-else-worker-lt15
unfolding holds
returns-else-worker-lt15 c =
    let a = c.args in
    sym (ne_eqb (digit_of a.holders a.lock) (suc a.worker) (λ same. omega (arith, digit_lt a.holders a.lock)))
