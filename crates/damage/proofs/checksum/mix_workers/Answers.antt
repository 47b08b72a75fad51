-- `damage::checksum::mix_workers` meets its contract: one worker after the other.
use Rattle.std.proofs.Common.{◌∙◌, arith, rules, tests}
use Rattle.std.proofs.lemmas.Iterator.{YieldsList-from_slice}
use Rattle.std.proofs.lemmas.Iterator.Consumers.{fold_from_yields_List}
use Rattle.damage.proofs.Sums.{with_worker, workers-folded}
use Rattle.damage.proofs.checksum.mix_workers.Goals as goal

pub returns : goal.returns
returns c =
    let a = c.args in
    fold_from_yields_List _ with_worker a.sum c.fold.result c.fold.ensures.ran (YieldsList-from_slice a.state.worker cc) (λ h x b q k. search (rules, tests))
    ∙ workers-folded a.sum a.state (omega arith)
