-- A worker's digit is its number and 1.
use mathlib.Core.Path.{ap, ◌∙◌}
use native.Mathlib.Numerals.{add-one}
use Rattle.locks.specs.Holders.{with_digit}
use Rattle.locks.proofs.held_by.Goals as goal

pub returns : goal.returns
returns c =
    let a = c.args in c.with_digit.ensures ∙ ap (with_digit a.holders a.lock) (add-one a.worker)
