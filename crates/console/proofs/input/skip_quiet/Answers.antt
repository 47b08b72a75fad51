use Rattle.std.proofs.Common.{refl, arith}
use Rattle.console.proofs.input.skip_quiet.Goals as goal

pub loop-i-init : goal.loop-i-init
loop-i-init c = record { later = omega arith; inside = omega arith; same_end = refl }

pub loop-i-preserved : goal.loop-i-preserved
loop-i-preserved c =
    let l = c.loop-i.invariant in
    let on = c.quiet.ensures c.if-quiet.true in
    record { later = omega (arith, l.later); inside = omega arith; same_end = omega (arith, l.same_end, on) }
