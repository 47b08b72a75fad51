-- What the two calls on HEX text change: the text row or the row of words alone, and that only where they are taken.
use Prim.Native.Nat.{ℕ, zero, suc, ◌+◌, ◌*◌}
use mathlib.Core.Path.{◌≡◌, refl, ap, sym, ◌∙◌}
use mathlib.Core.List.{List, ◌++◌}
use mathlib.Core.Bool.{false, not, true≢false}
use native.Mathlib.Omega.{arith}
use lib.Dec.{eqb}
use lib.ListN.{length, drop}
use borrow.Author.Tests.{eqb-true, eqb-false}
use Rattle.board.specs.Causes.{bad_length}
use Rattle.board.specs.Hex.{hex_text, Parsed, no_file, file, parsed, is_no_file, read_bytes, misfits, words_of, hex_read_causes, hex_read_cause, HexReadPerformed}
use Rattle.board.specs.Changes.{HexWriteChanges, HoldsText, HexReadChanges}
use Rattle.predicate.proofs.Bools.{split, or_right, not-off}
use Rattle.board.proofs.Laws.Taken.{numbered, Clear, first-clear}
use Rattle.board.proofs.Laws.Quiet.{hex-write-refused, hex-write-taken, hex-read-number, hex-read-refused, hex-read-taken}

-- Writing changes the text row alone.
pub write-changes : HexWriteChanges
write-changes memory text left number p =
    let front : 0 + length (hex_text memory) ≡ length (hex_text memory) = omega arith in
    (hex-write-refused memory text p, λ e. hex-write-taken memory text p e ∙ ap (λ (k : ℕ). hex_text memory ++ drop k text) front)

-- As many words as were asked for.
words-length : (n : ℕ) (bytes : List ℕ) → length (words_of n bytes) ≡ n
unfolding words_of
words-length zero bytes = refl
words-length (suc n) bytes = ap suc (words-length n (drop 8 bytes))

-- A text that is a file reads to its bytes.
is-file : (q : Parsed) → is_no_file q ≡ false → q ≡ file (read_bytes q)
is-file no_file e = absurd (true≢false e)
is-file (file bytes) e = refl

-- Where no cause stands against reading.
none-stands : (text row : List ℕ) → hex_read_cause text row ≡ 0 → (is_no_file (parsed text) ≡ false) × (misfits (read_bytes (parsed text)) row ≡ false)
unfolding hex_read_cause hex_read_causes numbered Clear
none-stands text row e = let clear = first-clear (hex_read_causes text row) refl e in (clear.0, clear.1.0)

-- Taken, it leaves a row of the text's words.
holds_text : (text row left : List ℕ) (number : ℕ) → HexReadPerformed text row number left → number ≡ 0 → HoldsText text left
holds_text text row left number p e =
    let bytes = read_bytes (parsed text) in
    let fitting = eqb (length bytes) (8 * length row) in
    let (is, fit) = none-stands text row (sym (hex-read-number text row p) ∙ e) in
    let words = hex-read-taken text row p e in
    let same : length left ≡ length row = ap length words ∙ words-length (length row) bytes in
    record {
      bytes = bytes;
      is_file = is-file (parsed text) is;
      fits =
          eqb-true (length bytes) (8 * length row) (not-off fitting (or_right (bad_length (length row)) (not fitting) fit))
          ∙ ap (λ (n : ℕ). 8 * n) (sym same);
      words = words ∙ ap (λ (n : ℕ). words_of n bytes) (sym same);
    }

-- Reading changes the row alone, and not its length.
pub read-changes : HexReadChanges
read-changes text row left number p = (
  split (eqb number 0)
      (λ t. ap length (hex-read-taken text row p (eqb-true number 0 t)) ∙ words-length (length row) (read_bytes (parsed text)))
      (λ t. ap length (hex-read-refused text row p (eqb-false number 0 t))),
  hex-read-refused text row p,
  holds_text text row left number p,
)
