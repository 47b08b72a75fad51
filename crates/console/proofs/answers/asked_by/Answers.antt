-- `console::answers::asked_by` meets its contract.
use Rattle.std.proofs.Common.{ℕ, Option, ap, ◌∙◌}
use Rattle.std.specs.Option.{unwrap_or}
use Rattle.std.proofs.lemmas.Option.{unwrap_or-slice_get}
use Rattle.script.specs.declared.Line.{Line}
use Rattle.script.specs.Reasons.{reason, reason_number}
use Rattle.console.proofs.answers.asked_by.Goals as goal

pub returns : goal.returns
returns c =
    let a = c.args in
    let line = c.parse-line in
    record {
      means = line.ensures;
      begins = c.unwrap_or.ensures ∙ ap (λ (o : Option ℕ). unwrap_or o 0) (c.copied.ensures ∙ c.first.ensures.value) ∙ unwrap_or-slice_get a.text.now 0 0;
      reasons = λ t. c.reason_if.ensures t ∙ ap (λ (k : Line). reason_number (reason a.program a.text.now k)) line.ensures;
    }
