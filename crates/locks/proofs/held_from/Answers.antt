-- Every second lock, and the others shifted down.
use Prim.Native.Nat.{◌*◌}
use mathlib.Core.Path.{sym, ap₂, ◌∙◌}
use mathlib.Core.Bool.{Bool, ◌||◌}
use native.Mathlib.Omega.{arith}
use lib.Dec.{ltb}
use borrow.Author.Tests.{le-ltb}
use Rattle.predicate.specs.Passing.{any_under}
use Rattle.predicate.proofs.Passing.{under_none}
use Rattle.locks.specs.Holders.{digit_of, held_from}
use Rattle.locks.proofs.Holders.{digit_lt, digit-next}
use Rattle.locks.proofs.Lanes.{any-halves}
use Rattle.locks.proofs.held_from.Goals as goal

pub returns-then-workers-lt16 : goal.returns-then-workers-lt16
unfolding held_from
returns-then-workers-lt16 c =
    let a = c.args in
    ap₂ (λ (x y : Bool). x || y) c.even_held_from.ensures
    (c.even_held_from-then-workers-lt16.ensures ∙ (λ i. any_under 8 (λ k. ltb a.workers (digit-next a.holders (2 * k) i))))
    ∙ any-halves (λ k. ltb a.workers (digit_of a.holders k))

-- A digit is under 16.
pub returns-else-workers-lt16 : goal.returns-else-workers-lt16
unfolding held_from
returns-else-workers-lt16 c =
    let a = c.args in
    sym (under_none 16 (λ k. ltb a.workers (digit_of a.holders k)) (λ k l. le-ltb a.workers (digit_of a.holders k) (omega (arith, digit_lt a.holders k))))
