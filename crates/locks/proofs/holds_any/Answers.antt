use Prim.Native.Nat.{ℕ, suc, ◌/◌, ◌%◌}
use mathlib.Core.Path.{◌≡◌, refl, ap, ◌∙◌}
use mathlib.Core.Bool.{Bool, false, ◌||◌}
use native.Mathlib.Omega.{arith}
use native.Mathlib.Nat.{div-one}
use lib.Dec.{eqb}
use borrow.Author.Tests.{ne_eqb}
use Rattle.locks.specs.Holders.{digit_of, holds, holds_any}
use Rattle.locks.proofs.Holders.{any_digit, digits-on, digits-end}
use Rattle.locks.proofs.holds_any.Invariants.{own}
use Rattle.locks.proofs.holds_any.Goals as goal

own-zero : (w : ℕ) → own w 0 ≡ false
own-zero w = ne_eqb 0 (suc w) (λ same. omega arith)

low : (h w : ℕ) → holds h w 0 ≡ own w (h % 16)
unfolding holds digit_of
low h w = ap (λ (x : ℕ). eqb (x % 16) (suc w)) (div-one h)

pub loop-rest-init : goal.loop-rest-init
loop-rest-init c = (omega arith, refl)

pub holds-found-requires : goal.holds-found-requires
holds-found-requires c = tt

pub loop-rest-smaller : goal.loop-rest-smaller
loop-rest-smaller c = omega arith

pub loop-rest-preserved : goal.loop-rest-preserved
loop-rest-preserved c =
    let l = c.loop-rest in
    let a = c.args in
    let here = c.holds-found.ensures ∙ low l.rest a.worker in
    let both = digits-on (own a.worker) (own-zero a.worker) a.holders l.rest l.found (omega arith) l.invariant.1 in
    (omega arith, ap (λ (t : Bool). (l.found || t) || any_digit (own a.worker) (l.rest / 16)) here ∙ both)

pub returns : goal.returns
unfolding holds_any holds
returns c =
    let l = c.loop-rest in
    let a = c.args in
    digits-end (own a.worker) (own-zero a.worker) a.holders l.rest l.found (omega arith) l.invariant.1
