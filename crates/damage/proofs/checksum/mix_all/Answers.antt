-- `damage::checksum::mix_all` meets its contract: `summed` is the fold of `mixed`.
use Rattle.std.proofs.Common.{◌∙◌, rules, tests}
use Rattle.std.proofs.lemmas.Iterator.{YieldsList-from_slice}
use Rattle.std.proofs.lemmas.Iterator.Consumers.{fold_from_yields_List}
use Rattle.damage.specs.Checksum.{mixed}
use Rattle.damage.proofs.Sums.{fold-summed}
use Rattle.damage.proofs.checksum.mix_all.Goals as goal

pub returns : goal.returns
returns c =
    fold_from_yields_List _ mixed c.args.sum c.fold.result c.fold.ensures.ran (YieldsList-from_slice c.args.numbers.now cc) (λ a x b q k. search (rules, tests))
    ∙ fold-summed c.args.sum c.args.numbers.now
