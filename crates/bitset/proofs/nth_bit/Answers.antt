use Rattle.std.proofs.Common.{◌≡◌, ◌∙◌, ◌+◌, ◌-◌, bit_and, ap, subst, arith}
use Rattle.predicate.specs.Passing.{nth_under}
use Rattle.bitset.specs.Words.{bit_of}
use Rattle.bitset.proofs.Swept.{Swept, swept_none, swept-lowest, swept-zeros, swept-some, swept-on}
use Rattle.bitset.proofs.nth_bit.Goals as goal

pub loop-init : goal.loop-init
loop-init c =
    let w = c.args.word in
    let p = c.args.p in
    let none : p ≡ p - 0 = omega arith in
    subst (Swept w p w) none (swept_none w p)

pub overflow_sub-rest : goal.overflow_sub-rest
overflow_sub-rest c = let l = c.loop in swept-some _ _ l.rest (c.args.p - l.counter) c.requires l.invariant

pub loop-preserved : goal.loop-preserved
loop-preserved c =
    let l = c.loop in
    let a = c.args in
    let one : a.p - l.counter - 1 ≡ a.p - (l.counter + 1) = omega arith in
    subst (Swept a.word a.p (bit_and l.rest (l.rest - 1))) one
    (swept-on _ _ l.rest (a.p - l.counter) c.requires l.invariant (omega arith))

pub returns-clause-value : goal.returns-clause-value
returns-clause-value c =
    let l = c.loop in
    let a = c.args in
    c.from.ensures ∙ swept-zeros a.word a.p l.rest (a.p - l.counter) c.requires l.invariant ∙ ap (nth_under 64 (bit_of a.word)) (omega arith)

pub returns-clause-upper_bound : goal.returns-clause-upper_bound
returns-clause-upper_bound c =
    let l = c.loop in
    let a = c.args in
    let zeros = swept-zeros a.word a.p l.rest (a.p - l.counter) c.requires l.invariant in
    let low = swept-lowest a.word a.p l.rest (a.p - l.counter) c.requires l.invariant in
    omega (arith, c.from.ensures, zeros, low.found.within)
