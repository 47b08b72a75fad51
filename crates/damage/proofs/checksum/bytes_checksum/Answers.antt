-- `damage::checksum::bytes_checksum` meets its contract: `summed` is the fold of `mixed`.
use Rattle.std.proofs.Common.{◌∙◌, rules, tests}
use Rattle.std.proofs.lemmas.Iterator.{YieldsList-from_slice}
use Rattle.std.proofs.lemmas.Iterator.Consumers.{fold_from_yields_List}
use Rattle.damage.specs.Checksum.{mixed}
use Rattle.damage.proofs.Sums.{fold-summed}
use Rattle.damage.proofs.checksum.bytes_checksum.Goals as goal

pub returns : goal.returns
returns c =
    fold_from_yields_List _ mixed 14695981039346656037 c.fold.result c.fold.ensures.ran (YieldsList-from_slice c.args.bytes.now cc) (λ a x b q k. search (rules, tests))
    ∙ fold-summed 14695981039346656037 c.args.bytes.now
