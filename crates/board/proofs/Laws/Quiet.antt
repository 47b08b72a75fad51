-- What the contracts of a page and of the two calls on HEX text say, and that a quiet thing leaves the board as it was.
use Prim.Native.Nat.{ℕ}
use mathlib.Core.Path.{◌≡◌, refl, ap, sym, ◌∙◌}
use mathlib.Core.List.{List}
use lib.Dec.{eqb}
use lib.ListN.{length}
use borrow.Author.Tests.{eq-eqb, ne_eqb}
use Rattle.text.specs.Writing.{put}
use Rattle.board.specs.Board.{Board}
use Rattle.board.specs.Next.{lent}
use Rattle.board.specs.Page.{PageOutcome, PagePerformed}
use Rattle.board.specs.Hex.{hex_text, parsed, words_of, read_bytes, hex_write_cause, hex_write_left, HexWritten, HexWritePerformed, hex_read_cause, hex_read_left, HexRead, HexReadPerformed}
use Rattle.board.specs.Quiet.{Quiet, page, written, memory_refused, cache_refused}
use Rattle.predicate.proofs.Bools.{chosen, passed_over}

-- A page leaves the board as it was.
pub page-board : (b : Board) (text : List ℕ) {left : List ℕ} {number : ℕ} {b' : Board} → PagePerformed b text number b' left → b' ≡ b
page-board b text p = ap (λ (o : PageOutcome). o.board) p

module _ (row text : List ℕ) {number : ℕ} {left : List ℕ} (p : HexWritePerformed row text number left) where
  -- The number that writing gave back.
  pub hex-write-number : number ≡ hex_write_cause row text
  hex-write-number = ap (λ (o : HexWritten). o.number) p

  -- Refused, it leaves the text row.
  pub hex-write-refused : (number ≡ 0 → ⊥) → left ≡ text
  unfolding hex_write_left
  hex-write-refused o =
      let n = hex_write_cause row text in
      ap (λ (w : HexWritten). w.text) p ∙ passed_over (eqb n 0) _ text (ne_eqb n 0 (λ e. o (hex-write-number ∙ e)))

  -- Taken, it leaves the text at its front.
  pub hex-write-taken : number ≡ 0 → left ≡ put text 0 (hex_text row)
  unfolding hex_write_left
  hex-write-taken e =
      let n = hex_write_cause row text in
      ap (λ (w : HexWritten). w.text) p ∙ chosen (eqb n 0) (put text 0 (hex_text row)) text (eq-eqb n 0 (sym hex-write-number ∙ e))

module _ (text row : List ℕ) {number : ℕ} {left : List ℕ} (p : HexReadPerformed text row number left) where
  -- The number that reading gave back.
  pub hex-read-number : number ≡ hex_read_cause text row
  hex-read-number = ap (λ (o : HexRead). o.number) p

  -- Refused, it leaves the row.
  pub hex-read-refused : (number ≡ 0 → ⊥) → left ≡ row
  unfolding hex_read_left
  hex-read-refused o =
      let n = hex_read_cause text row in
      ap (λ (r : HexRead). r.row) p ∙ passed_over (eqb n 0) _ row (ne_eqb n 0 (λ e. o (hex-read-number ∙ e)))

  -- Taken, it leaves the words of the text.
  pub hex-read-taken : number ≡ 0 → left ≡ words_of (length row) (read_bytes (parsed text))
  unfolding hex_read_left
  hex-read-taken e =
      let n = hex_read_cause text row in
      ap (λ (r : HexRead). r.row) p ∙ chosen (eqb n 0) (words_of (length row) (read_bytes (parsed text))) row (eq-eqb n 0 (sym hex-read-number ∙ e))

-- A quiet thing leaves the board as it was.
pub quiet-board : {b b' : Board} → Quiet b b' → b' ≡ b
quiet-board {b} (page text left p) = page-board b text p
quiet-board (written row text left p) = refl
quiet-board {b} (memory_refused text left p o) = ap (λ (row : List ℕ). lent b.state row b.cache) (hex-read-refused text b.memory p o)
quiet-board {b} (cache_refused text left p o) = ap (λ (row : List ℕ). lent b.state b.memory row) (hex-read-refused text b.cache p o)
