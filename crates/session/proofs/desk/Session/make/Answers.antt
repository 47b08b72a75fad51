-- `Session::make` meets its contract.
use Rattle.std.proofs.Common.{ap, ◌∙◌, take}
use Rattle.board.specs.Next.{Outcome}
use Rattle.script.specs.declared.Shown.TheVariants.{Number}
use Rattle.session.specs.Session.{desk}
use Rattle.session.specs.Lines.{done, repeated}
use Rattle.session.proofs.Acts.{shown_as, unwrapped, with_state_lem}
use Rattle.session.proofs.desk.Session.make.Goals as goal

pub returns-clause-does : goal.returns-clause-does
unfolding repeated
returns-clause-does c =
    let r = c.repeat-r in
    let s = c.args.self in
    shown_as (with_state_lem s c.with_state.result _ _ _ c.with_state.ensures.state c.with_state.ensures.same_lengths) c.told.ensures (c.unwrap_or.ensures ∙ unwrapped r.result.last)
    ∙ ap (λ (o : Outcome). done (desk o.board (take s.text c.args.rows.now.text.now)) (Number o.number) (Number o.value)) r.ensures
