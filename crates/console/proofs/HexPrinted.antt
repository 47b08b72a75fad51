-- What is printed of a memory, from what writing it left of the text row.
use Rattle.std.proofs.Common.{◌≡◌, ℕ, ◌%◌, ◌≤◌, Bool, true, false, cond, ◌&&◌, eqb, ltb, leb, List, [], length, take, sym, refl, ap, ◌∙◌, arith, le-ltb, eq-eqb, ne_eqb, leb-true}
use lib.ListN.{length-replicate}
use Rattle.board.specs.Causes.{bad_length, first_standing}
use Rattle.board.specs.Hex.{hex_text, hex_bytes, hex_write_causes, hex_write_cause, hex_write_left, HexWritten, HexWritePerformed}
use Rattle.predicate.proofs.Bools.{chosen, passed_over, and_right, clash, not-off}
use Rattle.text.proofs.Writing.{put_front}
use Rattle.console.specs.Printing.{printing, longest_row, hex_printed_of, HexNeverShort}

-- Writing's number goes by the text row's length alone.
cause-by-length : (memory s t : List ℕ) → length s ≡ length t → hex_write_cause memory s ≡ hex_write_cause memory t
unfolding hex_write_cause hex_write_causes first_standing
cause-by-length memory s t e =
    ap (λ (n : ℕ). cond (bad_length (length memory)) 20 (cond (ltb n (hex_bytes (length memory))) 12 0)) e

-- The row that is lent has the longest text's length.
longest-size : length longest_row ≡ hex_bytes 4096
unfolding longest_row
longest-size = length-replicate {A = ℕ} (hex_bytes 4096) 0

-- Of two causes none stands where the first is off and the second is too.
none_first : (a b : Bool) → ◌≡◌ {A = ℕ} (cond a 20 (cond b 12 0)) 0 → a ≡ false
none_first true b e = absurd (omega arith)
none_first false b e = refl

-- A memory that is written has a length that recovery takes.
length-fine : (memory text : List ℕ) → hex_write_cause memory text ≡ 0 → bad_length (length memory) ≡ false
unfolding hex_write_cause hex_write_causes first_standing
length-fine memory text e = none_first (bad_length (length memory)) (ltb (length text) (hex_bytes (length memory))) e

-- Such a length is at most 4,096.
length_most : (n : ℕ) → bad_length n ≡ false → n ≤ 4096
length_most n e = leb-true n 4096 (and_right (eqb (n % 8) 0 && leb 16 n) (leb n 4096) (not-off _ e))

module _ (memory text left : List ℕ) (number : ℕ) (size : length text ≡ hex_bytes 4096) (wrote : HexWritePerformed memory text number left) where
  told : number ≡ hex_write_cause memory longest_row
  told = ap (λ (o : HexWritten). o.number) wrote ∙ cause-by-length memory text longest_row (size ∙ sym longest-size)

  -- Of a refused memory nothing is printed.
  pub refused-hex : (number ≡ 0 → ⊥) → printing number [] ≡ hex_printed_of memory
  unfolding hex_printed_of
  refused-hex some =
      ap (λ (n : ℕ). printing n []) told
      ∙ ap (printing (hex_write_cause memory longest_row)) (sym (passed_over (eqb (hex_write_cause memory longest_row) 0) _ _ (ne_eqb _ 0 (λ z. some (told ∙ z)))))

  taken : number ≡ 0 → bad_length (length memory) ≡ false
  taken none = length-fine memory text (sym (ap (λ (o : HexWritten). o.number) wrote) ∙ none)

  -- A written memory has at most 4,096 words.
  pub written-most : number ≡ 0 → length memory ≤ 4096
  written-most none = length_most (length memory) (taken none)

  -- Of a written one its text is.
  pub taken-hex : (bytes : ℕ) → number ≡ 0 → bytes ≡ hex_bytes (length memory) →
      (bad_length (length memory) ≡ false → length (hex_text memory) ≡ hex_bytes (length memory)) →
      (printing number (take bytes left) ≡ hex_printed_of memory) × (bytes ≤ 90124)
  unfolding hex_printed_of hex_write_left
  taken-hex bytes none e room =
      let all = hex_text memory in
      let zero : hex_write_cause memory text ≡ 0 = sym (ap (λ (o : HexWritten). o.number) wrote) ∙ none in
      let width : length all ≡ hex_bytes (length memory) = room (taken none) in
      let most : length memory ≤ 4096 = written-most none in
      let holds = ap (λ (o : HexWritten). o.text) wrote ∙ chosen (eqb (hex_write_cause memory text) 0) _ _ (eq-eqb _ 0 zero) in
      let printed : take bytes left ≡ all = put_front {row = text} {text = all} {at = 0} {end = bytes} (record { ends = omega (arith, width); holds = holds }) (omega (arith, width)) in (
        ap (printing number) printed
            ∙ ap (λ (n : ℕ). printing n all) told
            ∙ ap (printing (hex_write_cause memory longest_row)) (sym (chosen (eqb (hex_write_cause memory longest_row) 0) _ _ (eq-eqb _ 0 (sym told ∙ none)))),
        omega arith,
      )

-- Of two causes the second is first only where it stands and the first does not.
not-second : (a b : Bool) → (a ≡ false → b ≡ false) → ◌≡◌ {A = ℕ} (cond a 20 (cond b 12 0)) 12 → ⊥
not-second true b off e = omega arith
not-second false true off e = clash refl (off refl)
not-second false false off e = omega arith

-- The row that is lent is never too short.
pub hex-never-short : HexNeverShort
unfolding hex_write_cause hex_write_causes first_standing
hex-never-short memory e =
    not-second (bad_length (length memory)) (ltb (length longest_row) (hex_bytes (length memory)))
    (λ fine. le-ltb (length longest_row) (hex_bytes (length memory)) (omega (arith, longest-size, length_most (length memory) fine))) e
