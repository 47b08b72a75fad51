-- The scan's three tests are bracketed as in the definition.
use Rattle.std.proofs.Common.{rules, ◌∙◌, ◌&&◌, not}
use lib.Dec.{eqb}
use Rattle.board.specs.State.{updates}
use Rattle.checks.proofs.Scan.{others-told}
use Rattle.checks.proofs.record.others_update.Goals as goal

pub returns : goal.returns
returns c =
    let given = c.args in
    c.any_worker.ensures (λ i k. not (eqb i given.worker) && updates (eqb given.cell) k) (λ i k r p. search rules)
    ∙ others-told given.state given.worker given.cell
