-- `console::display::words_for` meets its contract.
use Rattle.std.proofs.Common.{◌≡◌, ltb, arith, ltb-false}
use Rattle.std.proofs.lemmas.Bool.{ltb-true}
use Rattle.board.specs.Hex.{hex_words}
use Rattle.predicate.proofs.Bools.{on}
use Rattle.console.specs.Display.{words_for}
use Rattle.console.proofs.display.words_for.Goals as goal

pub returns : goal.returns
unfolding words_for
returns c =
    let n = hex_words c.args.text.now in (
      on (λ k. c.min.result ≡ k) (ltb 4096 n) 4096 n
          (λ t. omega (arith, ltb-true 4096 n t, c.min.ensures, c.words_in.ensures))
          (λ f. omega (arith, ltb-false 4096 n f, c.min.ensures, c.words_in.ensures)),
      omega (arith, c.min.ensures),
    )
