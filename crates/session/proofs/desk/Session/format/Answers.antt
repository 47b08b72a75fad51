-- `Session::format` meets its contract: the rows are zeros, then comes the start, then the steps.
use Rattle.std.proofs.Common.{refl, sym, ◌∙◌}
use Rattle.session.specs.Session.{desk_of}
use Rattle.session.proofs.Acts.{by_parts}
use Rattle.session.proofs.Formats.{format-up}
use Rattle.session.proofs.desk.Session.format.Goals as goal

pub returns-clause-does : goal.returns-clause-does
returns-clause-does c =
    let a = c.args in
    let started = c.with_state-started in
    let last = c.with_state in
    by_parts _ _ _ c.answered-2.ensures
    ∙ format-up a.lines a.workers c.row_words-words.result a.self.state started.result last.result a.self.text (desk_of a.self a.rows.now)
    c.zero.new.row c.zero-2.new.row c.repeat-begun.new.memory c.repeat-begun.new.cache _ _ _
    c.row_words-words.ensures (sym c.outside.ensures ∙ c.if-outside.false) refl refl c.zero.ensures c.zero-2.ensures c.repeat-begun.ensures
    started.ensures.state started.ensures.same_lengths c.repeat-ended.ensures last.ensures.state last.ensures.same_lengths
