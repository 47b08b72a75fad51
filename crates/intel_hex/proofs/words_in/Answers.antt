-- `hex::words_in` meets its contract.
use Prim.Native.Nat.{ℕ, ◌/◌, ◌%◌}
use mathlib.Core.Path.{◌≡◌, refl, sym, ap, ◌∙◌}
use mathlib.Core.Bool.{true}
use mathlib.Core.List.{List}
use lib.ListN.{length}
use borrow.Author.Tests.{eq-eqb, ne_eqb}
use Rattle.predicate.proofs.Bools.{chosen, passed_over}
use Rattle.board.specs.Hex.{Parsed, no_file, file, is_no_file, parsed, read_bytes, hex_words}
use Rattle.intel_hex.proofs.words_in.Goals as goal

module _ (text : List ℕ) {bytes : ℕ} (e : bytes ≡ length (read_bytes (parsed text))) where
  -- Whole words.
  whole : bytes % 8 ≡ 0 → bytes / 8 ≡ hex_words text
  unfolding hex_words
  whole z = ap (λ (k : ℕ). k / 8) e ∙ sym (chosen _ _ _ (eq-eqb _ 0 (ap (λ (k : ℕ). k % 8) (sym e) ∙ z)))

  -- Bytes left over.
  broken : (bytes % 8 ≡ 0 → ⊥) → 0 ≡ hex_words text
  unfolding hex_words
  broken z = sym (passed_over _ _ _ (ne_eqb _ 0 (λ y. z (ap (λ (k : ℕ). k % 8) e ∙ y))))

-- What is no file has no bytes.
none : (p : Parsed) → is_no_file p ≡ true → 0 ≡ length (read_bytes p)
none no_file e = refl
none (file bytes) e = cc

pub returns-in-Some : goal.returns-in-Some
returns-in-Some c = whole c.args.text.now c.in-Some.ensures.1 c.if-bytes-eq0.true

pub returns-in_default : goal.returns-in_default
returns-in_default c = broken c.args.text.now c.in-Some.ensures.1 c.if-bytes-eq0.false

pub returns-in_default-2 : goal.returns-in_default-2
returns-in_default-2 c = whole c.args.text.now (none (parsed c.args.text.now) c.in_default.ensures) refl
