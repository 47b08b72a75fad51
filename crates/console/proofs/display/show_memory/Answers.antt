-- `console::display::show_memory` meets its contract: the page and the header's line are those of the recovered board.
use Rattle.std.proofs.Common.{sym, refl, ap, ◌∙◌, arith, rules}
use Rattle.board.specs.Board.{Board}
use Rattle.causes.proofs.Guard.{no_refusal_is_taken}
use Rattle.console.specs.Printing.{printed_of}
use Rattle.console.specs.Display.{unrecovered, recovered, header_line}
use Rattle.console.proofs.Refused.{none_shown, no_value}
use Rattle.console.proofs.Displays.{start-length, memory-down, memory-up, page-down, page-up, line-front}
use Rattle.console.proofs.display.show_memory.Goals as goal

pub returns-in_err-state : goal.returns-in_err-state
returns-in_err-state c =
    let e = c.from_residual.ensures.1 in record {
      shows = none_shown _ _ _ _ e ∙ memory-down c.args.memory.now _ c.in_err-state.ensures.told (no_refusal_is_taken _);
      within = no_value _ _ _ e;
    }

pub returns-in_err-bytes : goal.returns-in_err-bytes
returns-in_err-bytes c =
    let e = c.from_residual-in_err-bytes.ensures.1 in
    let memory = c.args.memory.now in
    let state = c.in_ok-state.ensures in record {
      shows = none_shown _ _ _ _ e
          ∙ page-down (recovered (unrecovered memory)) _ _ (c.in_err-bytes.ensures.prints ∙ ap (λ (b : Board). printed_of b) state.leaves) (no_refusal_is_taken _)
          ∙ memory-up memory 0 state.told refl;
      within = no_value _ _ _ e;
    }

pub put_heading-heading-requires : goal.put_heading-heading-requires
put_heading-heading-requires c = (omega (arith, start-length c.args.memory.now (sym c.in_ok-state.ensures.told), c.recover.auto.memory), omega (arith, c.requires.1))

pub returns : goal.returns
returns c =
    let put = c.put_heading-heading.ensures in
    let memory = c.args.memory.now in
    let state = c.in_ok-state.ensures in
    let bytes = c.in_ok-bytes.ensures in
    let line = line-front put.0 put.1 (search rules) ∙ ap (λ (b : Board). header_line b.memory) state.leaves in record {
      shows = page-up (recovered (unrecovered memory)) 0 _ (bytes.prints ∙ ap (λ (b : Board). printed_of b) state.leaves) _ refl line
          ∙ memory-up memory 0 state.told refl;
      within = (put.1, bytes.within);
    }
