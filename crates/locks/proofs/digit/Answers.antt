-- A lock's digit is what stands above the locks below it.
use Prim.Native.Nat.{ℕ, ◌/◌, ◌%◌}
use mathlib.Core.Path.{sym, ap}
use native.Mathlib.Omega.{arith}
use Rattle.locks.specs.Holders.{digit_of}
use Rattle.locks.proofs.Holders.{power-bits, digit-past}
use Rattle.locks.proofs.digit.Goals as goal

pub returns-then-lock-lt16 : goal.returns-then-lock-lt16
unfolding digit_of
returns-then-lock-lt16 c =
    let a = c.args in
    record { value = ap (λ (x : ℕ). a.holders / x % 16) (sym (power-bits a.lock)); upper_bound = omega arith }

pub returns-else-lock-lt16 : goal.returns-else-lock-lt16
returns-else-lock-lt16 c = let a = c.args in record { value = sym (digit-past a.holders a.lock (omega arith) (omega arith)); upper_bound = omega arith }
