-- Document 02, tickets 1 and 9: what may happen beside the calls and changes nothing of a board: a page, a written text, a refused reading.
use Rattle.std.specs.Prelude.{ℕ, ◌≡◌, List}
use Rattle.board.specs.Board.{Board}
use Rattle.board.specs.Next.{lent}
use Rattle.board.specs.Page.{PagePerformed}
use Rattle.board.specs.Hex.{HexWritePerformed, HexReadPerformed}

-- `Quiet b b'`: a page or a writing of any row as text, taken or refused, or a refused reading of a text into memory or cache leads from `b` to `b'`.
-- That a page and a refused reading leave the same board is not assumed: it follows.
pub data Quiet (b : Board) : Board → Type 0 where
  page : {number : ℕ} (text left : List ℕ) {b' : Board} → PagePerformed b text number b' left → Quiet b b'
  written : {number : ℕ} (row text left : List ℕ) → HexWritePerformed row text number left → Quiet b b
  memory_refused :
      {number : ℕ} (text left : List ℕ) → HexReadPerformed text b.memory number left → (number ≡ 0 → ⊥) → Quiet b (lent b.state left b.cache)
  cache_refused :
      {number : ℕ} (text left : List ℕ) → HexReadPerformed text b.cache number left → (number ≡ 0 → ⊥) → Quiet b (lent b.state b.memory left)
