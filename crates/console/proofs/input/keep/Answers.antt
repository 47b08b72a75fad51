-- `console::input::keep` meets its contract: all of `more` is put behind the bytes kept, or as much as there is room for.
use Rattle.std.proofs.Common.{◌-◌, refl, ap, ◌∙◌, take, arith, length-take-le}
use Rattle.std.proofs.lemmas.List.{take_min}
use Rattle.console.proofs.Feeds.{copied, kept_line}
use Rattle.console.proofs.input.keep.Goals as goal

pub returns : goal.returns
returns c =
    let more = c.args.more.now in
    let begun = c.args.begun in
    let n = c.min-n.result in
    let part = length-take-le n more (omega (arith, c.min-n.ensures)) in (
      kept_line c.args.line.now more _ begun n _ c.requires.1 (omega (arith, c.min-n.ensures)) (omega (arith, c.min-n.ensures))
          (ap (λ k. take k more) c.min-n.ensures ∙ take_min (80 - begun) more) refl
          (copied c.args.line.now begun n (take n more) _ (omega (arith, part)) c.copy_from_slice.ensures.after),
      omega (arith, c.min-n.ensures),
    )
