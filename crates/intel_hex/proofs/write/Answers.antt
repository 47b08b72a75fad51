-- `hex::write` meets its contract: taken, the memory's text is written; refused, nothing is.
use Prim.Native.Nat.{ℕ, ◌≤◌, ◌<◌}
use mathlib.Core.Path.{◌≡◌, refl, sym, ap, ◌∙◌}
use mathlib.Core.Bool.{Bool, true, false}
use mathlib.Core.List.{List}
use lib.Dec.{ltb, eqb}
use lib.ListN.{length}
use borrow.Author.Tests.{lt-ltb, le-ltb}
use Rattle.text.specs.Writing.{put}
use Rattle.predicate.proofs.Bools.{chosen, passed_over}
use Rattle.board.specs.Causes.{bad_length, first_standing}
use Rattle.board.specs.Hex.{hex_text, hex_bytes, hex_write_causes, hex_write_cause, hex_write_left, HexWritePerformed}
use Rattle.intel_hex.proofs.write.Goals as goal

module _ (memory text : List ℕ) where
  -- A number that is not 0 leaves the text row as it was.
  refused : (number : ℕ) → hex_write_cause memory text ≡ number → eqb number 0 ≡ false → HexWritePerformed memory text number text
  unfolding hex_write_left
  refused number e off =
      let same = passed_over (eqb (hex_write_cause memory text) 0) (put text 0 (hex_text memory)) text (ap (λ (k : ℕ). eqb k 0) e ∙ off) in
      sym (λ i. record { number = e i; text = same i })

  -- Its length is wrong.
  wrong : bad_length (length memory) ≡ true → HexWritePerformed memory text 20 text
  unfolding hex_write_cause hex_write_causes first_standing
  wrong bad = refused 20 (chosen (bad_length (length memory)) 20 _ bad) refl

  -- The text row is too short.
  short : bad_length (length memory) ≡ false → length text < hex_bytes (length memory) → HexWritePerformed memory text 12 text
  unfolding hex_write_cause hex_write_causes first_standing
  short good less =
      let n = hex_bytes (length memory) in
      refused 12 (passed_over (bad_length (length memory)) 20 _ good ∙ chosen (ltb (length text) n) 12 _ (lt-ltb (length text) n less)) refl

  -- Neither is so, and its text is written.
  taken : {left : List ℕ} → bad_length (length memory) ≡ false → hex_bytes (length memory) ≤ length text → left ≡ put text 0 (hex_text memory) →
      HexWritePerformed memory text 0 left
  unfolding hex_write_cause hex_write_causes hex_write_left first_standing
  taken good room w =
      let n = hex_bytes (length memory) in
      let none : hex_write_cause memory text ≡ 0 =
      passed_over (bad_length (length memory)) 20 _ good ∙ passed_over (ltb (length text) n) 12 0 (le-ltb (length text) n room) in
      let same = w ∙ sym (chosen (eqb (hex_write_cause memory text) 0) (put text 0 (hex_text memory)) text (ap (λ (k : ℕ). eqb k 0) none)) in
      λ i. record { number = sym none i; text = same i }

-- A length that passed the test.
good : {bad : Bool} (memory : List ℕ) → bad ≡ bad_length (length memory) → bad ≡ false → bad_length (length memory) ≡ false
good memory b e = sym b ∙ e

pub returns-then-bad_length : goal.returns-then-bad_length
returns-then-bad_length c =
    let a = c.args in
    record { performed = wrong a.memory.now a.text.now (sym c.bad_length.ensures ∙ c.if-bad_length.true) }

pub returns-then-text-memory : goal.returns-then-text-memory
returns-then-text-memory c =
    let a = c.args in
    let g = good a.memory.now c.bad_length.ensures c.if-bad_length.false in
    record { performed = short a.memory.now a.text.now g c.if-text-memory.true }

pub returns : goal.returns
returns c =
    let a = c.args in
    let g = good a.memory.now c.bad_length.ensures c.if-bad_length.false in
    record { performed = taken a.memory.now a.text.now g c.if-text-memory.false c.put_memory.ensures }
