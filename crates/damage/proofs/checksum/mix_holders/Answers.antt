-- `damage::checksum::mix_holders` meets its contract: one lock after the other.
use Rattle.std.proofs.Common.{◌∙◌, refl, rules, tests}
use Rattle.std.proofs.lemmas.Iterator.{YieldsList-from_range}
use Rattle.std.proofs.lemmas.Iterator.Consumers.{fold_from_yields_List}
use Rattle.damage.specs.Checksum.{mixed, holder_number}
use Rattle.damage.proofs.Sums.{holders-folded}
use Rattle.damage.proofs.checksum.mix_holders.Goals as goal

pub returns : goal.returns
returns c =
    let a = c.args in
    fold_from_yields_List _ (λ h k. mixed h (holder_number a.state.holders k)) a.sum c.fold.result c.fold.ensures.ran (YieldsList-from_range 0 16 16 refl refl) (λ h x b q k. search (rules, tests))
    ∙ holders-folded a.sum a.state
