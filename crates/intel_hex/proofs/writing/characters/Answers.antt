-- `hex::writing::characters` meets its contract.
use mathlib.Core.Path.{ap, ◌∙◌}
use Rattle.intel_hex.proofs.Lanes.{paired, paired-lanes}
use Rattle.intel_hex.proofs.writing.characters.Goals as goal

pub returns : goal.returns
returns c = record { each = λ p q r s hp hq hr hs e. ap paired e ∙ paired-lanes p q r s hp hq hr hs }
