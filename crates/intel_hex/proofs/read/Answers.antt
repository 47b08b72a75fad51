-- `hex::read` meets its contract: taken, the row has the text's words; refused, it stays.
use Prim.Native.Nat.{ℕ, ◌*◌}
use mathlib.Core.Path.{◌≡◌, refl, sym, ap, subst, ◌∙◌}
use mathlib.Core.Bool.{Bool, true, false, not, ◌||◌}
use mathlib.Core.List.{List}
use lib.Dec.{eqb}
use lib.ListN.{length}
use Rattle.predicate.proofs.Bools.{chosen, passed_over}
use Rattle.board.specs.Causes.{bad_length, first_standing}
use Rattle.board.specs.Hex.{parsed, read_bytes, is_no_file, misfits, words_of, hex_read_causes, hex_read_cause, hex_read_left, HexReadPerformed}
use Rattle.std.specs.Prelude.{Option, Some, None, Result, Ok, Err, MatchOption}
use Rattle.std.specs.Option.{ok_or}
use Rattle.std.specs.Result.{IsErrAnd}
use Rattle.causes.specs.declared.refusals.Refusal.{Refusal}
use Rattle.causes.specs.Refusals.{number_of, answer_number}
use Rattle.intel_hex.proofs.read.Goals as goal

module _ (text row : List ℕ) where
  -- The row that reading leaves where its number is not 0.
  refused : (number : ℕ) → hex_read_cause text row ≡ number → eqb number 0 ≡ false → HexReadPerformed text row number row
  unfolding hex_read_left
  refused number e off =
      let same = passed_over (eqb (hex_read_cause text row) 0) (words_of (length row) (read_bytes (parsed text))) row (ap (λ (k : ℕ). eqb k 0) e ∙ off) in
      sym (λ i. record { number = e i; row = same i })

  -- The text is no file.
  no-file : is_no_file (parsed text) ≡ true → HexReadPerformed text row 19 row
  unfolding hex_read_cause hex_read_causes first_standing
  no-file e = refused 19 (chosen (is_no_file (parsed text)) 19 _ e) refl

  -- Its bytes do not fit the row.
  unfit : is_no_file (parsed text) ≡ false → misfits (read_bytes (parsed text)) row ≡ true → HexReadPerformed text row 20 row
  unfolding hex_read_cause hex_read_causes first_standing
  unfit e m = refused 20 (passed_over (is_no_file (parsed text)) 19 _ e ∙ chosen (misfits (read_bytes (parsed text)) row) 20 _ m) refl

  -- They do, and the row has their words.
  taken : {left : List ℕ} → is_no_file (parsed text) ≡ false → misfits (read_bytes (parsed text)) row ≡ false → left ≡ words_of (length row) (read_bytes (parsed text)) →
      HexReadPerformed text row 0 left
  unfolding hex_read_cause hex_read_causes hex_read_left first_standing
  taken e m w =
      let none : hex_read_cause text row ≡ 0 = passed_over (is_no_file (parsed text)) 19 _ e ∙ passed_over (misfits (read_bytes (parsed text)) row) 20 0 m in
      let same = w ∙ sym (chosen (eqb (hex_read_cause text row) 0) (words_of (length row) (read_bytes (parsed text))) row (ap (λ (k : ℕ). eqb k 0) none)) in
      λ i. record { number = sym none i; row = same i }

-- What the test of the length asks.
fit-test : {bad : Bool} {bytes : ℕ} (text row : List ℕ) → bad ≡ bad_length (length row) → bytes ≡ length (read_bytes (parsed text)) →
    bad || not (eqb bytes (8 * length row)) ≡ misfits (read_bytes (parsed text)) row
fit-test text row b n = (λ i. b i || not (eqb (n i) (8 * length row)))

-- What measuring the text gave.
abbrev Measured : List ℕ → Option ℕ → Type 0
Measured text m = MatchOption m (is_no_file (parsed text) ≡ true) (λ n. (is_no_file (parsed text) ≡ false) × (n ≡ length (read_bytes (parsed text))))

-- The text is a file.
held : {m : Option ℕ} {n : ℕ} (text : List ℕ) → Measured text m → m ≡ Some n → (is_no_file (parsed text) ≡ false) × (n ≡ length (read_bytes (parsed text)))
held text h e = rw e at h

-- It is none, and so the answer is 19.
refused-file : (text row : List ℕ) (m : Option ℕ) (x : Refusal) (r : Result (Unit {0}) Refusal) → Measured text m → m ≡ None → Err x ≡ ok_or m Refusal.File →
    IsErrAnd r (λ y. y ≡ x) → HexReadPerformed text row (answer_number r) row
refused-file text row (Some n) x r h e f g = absurd (let z : ◌≡◌ {A = Option ℕ} (Some n) None = e in cc)
refused-file text row None x (Ok y) h e f g = absurd g
refused-file text row None x (Err y) h e f g =
    let z : x ≡ Refusal.File = cc in subst (λ (k : ℕ). HexReadPerformed text row k row) (sym (ap number_of (g ∙ z))) (no-file text row h)

pub returns-in_err-bytes : goal.returns-in_err-bytes
returns-in_err-bytes c =
    record { performed = refused-file c.args.text.now c.args.row.now c.measure.result _ c.from_residual.result c.measure.ensures c.in_err-bytes.ensures.ok_part c.in_err-bytes.ensures.value c.from_residual.ensures.1 }

pub returns-then-bad_length-bytes : goal.returns-then-bad_length-bytes
returns-then-bad_length-bytes c =
    let a = c.args in
    let e = held a.text.now c.measure.ensures c.in_ok-bytes.ensures.ok_part in
    record { performed = unfit a.text.now a.row.now e.0 (sym (fit-test a.text.now a.row.now c.bad_length.ensures e.1) ∙ c.if-bad_length-bytes.true) }

pub returns : goal.returns
returns c =
    let a = c.args in
    let e = held a.text.now c.measure.ensures c.in_ok-bytes.ensures.ok_part in
    record { performed = taken a.text.now a.row.now e.0 (sym (fit-test a.text.now a.row.now c.bad_length.ensures e.1) ∙ c.if-bad_length-bytes.false) c.store.ensures }
