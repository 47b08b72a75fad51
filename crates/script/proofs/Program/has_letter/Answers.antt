use mathlib.Core.Path.{ap, ◌∙◌}
use mathlib.Core.List.{List}
use Prim.Native.Nat.{ℕ}
use Rattle.script.specs.Reasons.{stands_in}
use Rattle.script.proofs.SplitLaws.{stands_any}
use Rattle.script.proofs.Program.has_letter.Goals as goal

pub returns : goal.returns
returns c =
    c.contains.ensures.value ∙ stands_any c.args.letter c.letters.result.now
    ∙ ap (λ (l : List ℕ). stands_in c.args.letter l) c.letters.ensures
