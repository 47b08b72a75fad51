-- Each worker under W is asked, and no other passes.
use Rattle.std.proofs.Common.{refl, sym, ap, ◌∙◌, ℕ, arith}
use Rattle.predicate.specs.Passing.{any_under}
use Rattle.checks.proofs.Tests.{under_more}
use Rattle.checks.proofs.Scan.{told_at, told-under, told-past}
use Rattle.checks.proofs.workers.any_worker.Goals.{then-i-state, else-i-state}
use Rattle.checks.proofs.workers.any_worker.Goals as goal

pub loop-i-init : goal.loop-i-init
unfolding any_under
loop-i-init g c told h = refl

pub loop-i-preserved : goal.loop-i-preserved
loop-i-preserved g c told h =
    let at = c.loop-i in
    let more = under_more at.i (told_at c.args.state told) in
    elim c.if-i-state.branch [
      | then-i-state w ↦
          rw (
            w.found-is,
            at.invariant told h,
            h _ _ _ w.test-found.ensures,
            w.from.ensures,
            w.from-then-i-state.ensures,
            more,
            told-under c.args.state told at.i (omega (arith, w.if-i-state)),
          )
      | else-i-state w ↦ w.found-is ∙ at.invariant told h ∙ sym (more ∙ told-past c.args.state told at.i (omega (arith, w.if-i-state)))
    ]

pub returns : goal.returns
returns g c told h =
    c.loop-i.invariant told h ∙ ap (λ (k : ℕ). any_under k (told_at c.args.state told)) (omega (arith, c.loop-i.auto.i-end, c.loop-i-test.false))
