use Rattle.std.proofs.Common.{◌-◌, sym, ap, ◌∙◌, arith, rules}
use Rattle.board.specs.Next.{lent}
use Rattle.causes.specs.Refusals.{answer_number}
use Rattle.engine.specs.Answers.{value_left}
use Rattle.session.specs.Lines.{given}
use Rattle.session.proofs.Acts.{board-back}
use Rattle.session.proofs.Formats.{one-call, kept_ok, kept_err, no_call}
use Rattle.session.proofs.desk.Session.repeat.Goals as goal
use Rattle.session.proofs.desk.Session.repeat.Goals.{in-Ok, in-Err}

pub loop-preserved : goal.loop-preserved
loop-preserved c =
    let l = c.loop in
    let p = c.perform in
    let a = c.args in
    let before = given (answer_number l.last) (value_left l.last) (lent l.state l.memory l.cache) in
    elim c.match-perform.branch [
      | in-Ok w ↦ one-call a.times l.counter a.call before _ (search rules)
          (kept_ok l.state p.new.memory p.new.cache w.in-Ok.reading w.in-Ok.is w.state-is w.last-is ∙ p.ensures.performed) ∙ l.invariant
      | in-Err w ↦ one-call a.times l.counter a.call before _ (search rules)
          (kept_err l.state p.new.memory p.new.cache w.in-Err.refusal w.in-Err.is w.state-is w.last-is ∙ p.ensures.performed) ∙ l.invariant
    ]

pub returns : goal.returns
returns c =
    let l = c.loop in
    let a = c.args in
    ap (given (answer_number l.last) (value_left l.last)) (board-back a.self.memory a.self.cache a.memory.now a.cache.now l.memory l.cache (search rules) (search rules) l.auto.memory l.auto.cache l.state)
    ∙ sym (no_call (a.times - l.counter) _ _ (omega arith)) ∙ l.invariant
