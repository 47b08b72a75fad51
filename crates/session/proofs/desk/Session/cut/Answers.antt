-- `Session::cut` meets its contract.
use Rattle.std.proofs.Common.{List, ℕ, ap, ◌∙◌, take, rules}
use Rattle.board.specs.Next.{lent}
use Rattle.script.specs.declared.Shown.TheVariants.{Number, Nothing}
use Rattle.session.specs.Session.{Desk, desk}
use Rattle.session.specs.Lines.{done, switched_off}
use Rattle.session.proofs.Acts.{by_parts, with_state_lem, cut_off_lem}
use Rattle.session.proofs.desk.Session.cut.Goals as goal

pub returns-clause-does : goal.returns-clause-does
returns-clause-does c =
    let s = c.args.self in
    let rows = c.args.rows.now in
    by_parts _ _ _ c.answered.ensures
    ∙ ap (λ (d : Desk). done d (Number 0) Nothing) (with_state_lem s c.with_state.result _ _ _ c.with_state.ensures.state c.with_state.ensures.same_lengths)
    ∙ ap (λ (cache : List ℕ). done (desk (lent (switched_off s.state) (take s.memory rows.memory.now) cache) (take s.text rows.text.now)) (Number 0) Nothing)
    (cut_off_lem s rows.cache.now c.fill.new.self (search rules) (c.fill.ensures.after (λ y e. e)))
