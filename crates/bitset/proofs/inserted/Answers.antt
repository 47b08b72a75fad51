-- Each arm has its word's number, the last one by the bound.
use Prim.Native.Nat.{◌/◌, ◌≤◌}
use mathlib.Core.Path.{◌≡◌}
use native.Mathlib.Omega.{arith}
use Rattle.bitset.specs.Words.{inserted}
use Rattle.bitset.proofs.inserted.Goals as goal

pub returns-in-0 : goal.returns-in-0
unfolding inserted
returns-in-0 c = rw (c.with_bit.ensures, c.in-0.is)

pub returns-in-1 : goal.returns-in-1
unfolding inserted
returns-in-1 c = rw (c.with_bit-in-1.ensures, c.in-1.is)

pub returns-in-2 : goal.returns-in-2
unfolding inserted
returns-in-2 c = rw (c.with_bit-in-2.ensures, c.in-2.is)

pub returns-in-3 : goal.returns-in-3
unfolding inserted
returns-in-3 c = rw (c.with_bit-in-3.ensures, c.in-3.is)

pub returns-in-4 : goal.returns-in-4
unfolding inserted
returns-in-4 c = rw (c.with_bit-in-4.ensures, c.in-4.is)

pub returns-in-5 : goal.returns-in-5
unfolding inserted
returns-in-5 c = rw (c.with_bit-in-5.ensures, c.in-5.is)

pub returns-in-6 : goal.returns-in-6
unfolding inserted
returns-in-6 c = rw (c.with_bit-in-6.ensures, c.in-6.is)

pub returns-in_default : goal.returns-in_default
unfolding inserted
returns-in_default c =
    let none = c.in_default.in_default-own.rest in
    let four : 4 ≤ c.args.i / 64 = omega (arith, none.0.0.0) in
    let last : c.args.i / 64 ≡ 7 = omega (arith, c.requires, four, none.0.0.1, none.0.1, none.1) in
    rw (c.with_bit-in_default.ensures, last)
