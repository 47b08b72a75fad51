-- Where the step runs and is ready, no worker is looked at.
use Rattle.std.proofs.Common.{rules, ◌≡◌, sym, ◌∙◌}
use denote.Enum.Bare.{same_true}
use Rattle.board.specs.contracts.Phase.{the_type}
use Rattle.board.specs.declared.Phase.TheVariants.{Running}
use Rattle.checks.proofs.Scan.{ready-record}
use Rattle.checks.proofs.record.bad_step_record.Goals as goal

pub returns-then-not-unready : goal.returns-then-not-unready
returns-then-not-unready c =
    let state = c.args.state in
    let on : state.phase ≡ Running = same_true the_type (search rules) _ _ (sym c.if-eq.ensures) in
    c.bad_head.ensures ∙ ready-record state on (sym c.requires ∙ c.if-not-unready.true)
