use Rattle.std.proofs.Common.{◌+◌, ◌-◌, sym, ap, ◌∙◌, arith, rules}
use Rattle.board.specs.declared.State.{State}
use Rattle.board.specs.Next.{lent, Outcome}
use Rattle.board.specs.Statements.{steps_from}
use Rattle.console.proofs.Refused.{unwrapped}
use Rattle.console.proofs.Recovered.{one-step, no_step}
use Rattle.console.proofs.display.steps.Goals as goal

pub loop-preserved : goal.loop-preserved
loop-preserved c =
    let l = c.loop in
    let left = c.args.times - (l.counter + 1) in
    ap (λ (s : State). steps_from left (lent s c.step.new.memory c.step.new.cache)) (c.unwrap_or-now.ensures ∙ unwrapped c.step.result l.now)
    ∙ ap (λ (o : Outcome). steps_from left o.board) c.step.ensures.performed
    ∙ one-step c.args.times l.counter (lent l.now l.memory l.cache) (search rules)
    ∙ l.invariant

pub returns : goal.returns
returns c = sym (no_step (c.args.times - c.loop.counter) _ (omega arith)) ∙ c.loop.invariant
