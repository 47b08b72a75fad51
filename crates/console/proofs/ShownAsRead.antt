-- A text that can be read is shown as the memory that a reading of it leaves.
use Rattle.std.proofs.Common.{◌≡◌, ℕ, ◌≤◌, false, eqb, ltb, length, sym, ap, ◌∙◌, subst, arith, le-ltb, eq-eqb}
use lib.ListN.{length-replicate}
use Rattle.predicate.proofs.Bools.{chosen, passed_over}
use Rattle.board.specs.Causes.{bad_length}
use Rattle.board.specs.Hex.{hex_words, hex_read_cause, HexRead, HexReadPerformed}
use Rattle.intel_hex.proofs.Theorems.{hex-holds}
use Rattle.intel_hex.proofs.Written.{good_length}
use Rattle.console.specs.Display.{words_for, row_for, memory_shown, text_shown, ShownAsRead}

pub shown-as-read : ShownAsRead
unfolding text_shown words_for
shown-as-read text row left e =
    let held : hex_words text ≡ length row = hex-holds.words text row (sym (ap (λ (r : HexRead). r.number) e)) in
    let f = (hex-holds.taken text row left).0 e in
    let few : length row ≤ 4096 = (good_length (length row) f.2).1 in
    let words : words_for text ≡ length row = passed_over (ltb 4096 (hex_words text)) _ _ (le-ltb 4096 (hex_words text) (omega arith)) ∙ held in
    let size : length (row_for text) ≡ length row = length-replicate (words_for text) 0 ∙ words in
    let again : HexReadPerformed text (row_for text) 0 left =
    (hex-holds.taken text (row_for text) left).1 (f.0, f.1 ∙ sym size, subst (λ (n : ℕ). bad_length n ≡ false) (sym size) f.2, f.3) in
    let taken : hex_read_cause text (row_for text) ≡ 0 = sym (ap (λ (r : HexRead). r.number) again) in
    chosen (eqb (hex_read_cause text (row_for text)) 0) _ _ (eq-eqb (hex_read_cause text (row_for text)) 0 taken)
    ∙ ap memory_shown (sym (ap (λ (r : HexRead). r.row) again))
