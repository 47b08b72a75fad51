-- `console::display::show` meets its contract: the row read into has just the text's words, all 0 before.
use Rattle.std.proofs.Common.{◌∙◌, refl}
use Rattle.causes.proofs.Guard.{no_refusal_is_taken}
use Rattle.console.proofs.Refused.{none_shown, no_value}
use Rattle.console.proofs.Displays.{text-down, text-up, cache-zeros}
use Rattle.console.proofs.display.show.Goals as goal

pub returns-in_err-read : goal.returns-in_err-read
returns-in_err-read c =
    let e = c.from_residual.ensures.1 in
    let words = c.words_for-words in
    let a = c.args in record {
      shows = none_shown _ _ _ _ e
          ∙ text-down a.text.now a.memory.now _ words.result _ c.requires.0 words.ensures.1 words.ensures.0 c.in_err-read.ensures.performed (no_refusal_is_taken _);
      within = no_value _ _ _ e;
    }

pub show_memory-requires : goal.show_memory-requires
show_memory-requires c =
    let read = c.read in
    let words = c.words_for-words in
    let a = c.args in
    (cache-zeros a.text.now a.memory.now read.new.row words.result _ c.requires.0 words.ensures.1 words.ensures.0 c.in_ok-read.ensures.performed a.cache.now c.requires.1 read.auto.row, c.requires.2)

pub returns : goal.returns
returns c =
    let shown = c.show_memory in
    let read = c.read in
    let words = c.words_for-words in
    let a = c.args in
    record { shows = shown.ensures.shows ∙ text-up a.text.now a.memory.now read.new.row words.result _ c.requires.0 words.ensures.1 words.ensures.0 c.in_ok-read.ensures.performed read.auto.row refl; within = shown.ensures.within }
