-- One word stored, one line written back, and what a taken call finds of the rows.
use Prim.Native.Nat.{ℕ, ◌+◌, ◌≤◌, ◌<◌}
use mathlib.Core.Path.{◌≡◌, refl, sym, ap, subst}
use mathlib.Core.List.{List}
use mathlib.Core.Bool.{true, false}
use native.Mathlib.Omega.{arith}
use lib.ListN.{length, get_or, set, length-set}
use lib.Seq.{get_or-set_same, get_or-set_other}
use borrow.Author.Tests.{eq-eqb, eqb-true, ne_eqb}
use Rattle.line.specs.declared.Field.{Field}
use Rattle.line.specs.declared.Field.TheVariants.{Mark}
use Rattle.line.specs.Line.{line_of}
use Rattle.line.specs.Cell.{field_offset, field_index, field_of, with_field}
use Rattle.line.proofs.Laws.{offset-bound, length-line_of, length-with_line, get_d-with_line-out}
use Rattle.board.specs.declared.State.{State}
use Rattle.board.specs.Board.{Board, shape_of, cells, epoch_of}
use Rattle.board.specs.Location.{cell, logged}
use Rattle.board.specs.Causes.{bad_record, bad_rows}
use Rattle.board.specs.Effects.{cached, backed}
use Rattle.board.specs.Steps.{record_word}
use Rattle.board.specs.Changes.{OnlyWord, WordStored, LineWritten, MarkedNow}
use Rattle.board.proofs.Invariant.{Lengths}
use Rattle.board.proofs.Laws.Taken.{limits-in, record-within}
use Rattle.board.proofs.Laws.View.{line-in, cell_in, word-backed}
use Rattle.board.proofs.Format.Board.{rows-sized}

-- Where cause 3 and cause 4 pass, the rows have the lengths that the record's L asks.
pub passed-sizes : (b : Board) → bad_record b.state ≡ false → bad_rows b.state.lines b ≡ false → Lengths (shape_of b.state) b.memory b.cache
passed-sizes b fine rows =
    rows-sized (shape_of b.state) b (limits-in (shape_of b.state) b.state.workers (record-within b.state fine).limits).shape rows

-- ---- a word

-- A word stored in a row that has it.
only-word : (row : List ℕ) (i v : ℕ) → i < length row → OnlyWord i v row (set row i v)
only-word row i v h =
    record { word = get_or-set_same row i v 0 h; others = λ j o. get_or-set_other row i j v 0 o; size = length-set row i v }

-- A word stored in the cache.
pub word-stored : (b : Board) (s : State) (i v : ℕ) → i < length b.cache → WordStored i v b (cached (set b.cache i v) s b)
word-stored b s i v h = record { cache = only-word b.cache i v h; memory = refl }

-- A cell's fields stand where 01 says: `i` is the word of field `f`.
abbrev pub WordOf : ℕ → Field → ℕ → Type 0
WordOf c f i = record_word c + field_offset f ≡ i

-- The index of a field is that word.
field-word : (c : ℕ) (f : Field) {i : ℕ} → WordOf c f i → field_index c f ≡ i
unfolding field_index
field-word c f e = omega arith

-- A field read by its word.
pub field-word-read : (row : List ℕ) (c : ℕ) (f : Field) {i : ℕ} → WordOf c f i → field_of row c f ≡ get_or row i 0
unfolding field_of
field-word-read row c f e = ap (λ (k : ℕ). get_or row k 0) (field-word c f e)

-- A field stored in the cache, by its word.
pub field-word-stored : (b : Board) (s : State) (c : ℕ) (f : Field) {i v u : ℕ} → WordOf c f i → v ≡ u →
    Lengths (shape_of b.state) b.memory b.cache → c < cells (shape_of b.state) → WordStored i u b (cached (with_field b.cache c f v) s b)
unfolding with_field
field-word-stored b s c f {i} {v} e q z h =
    let inside : i < length b.cache = omega (arith, cell_in b.cache c z.cache h, offset-bound f) in
    subst (λ (x : ℕ). WordStored i x b (cached (with_field b.cache c f v) s b)) q
    (subst (λ (k : ℕ). WordStored i v b (cached (set b.cache k v) s b)) (sym (field-word c f e)) (word-stored b s i v inside))

-- ---- a mark

-- A cell with the row's epoch as its mark is logged.
pub mark-logs : (row : List ℕ) (c : ℕ) → MarkedNow c row → logged row (cell c) ≡ true
mark-logs row c m = eq-eqb (field_of row c Mark) (epoch_of row) (subst (λ (x : ℕ). x ≡ epoch_of row) (sym (field-word-read row c Mark refl)) m)

-- A cell with another mark is not.
pub mark-logs-not : (row : List ℕ) (c : ℕ) → (MarkedNow c row → ⊥) → logged row (cell c) ≡ false
mark-logs-not row c o = ne_eqb (field_of row c Mark) (epoch_of row) (λ e. o (subst (λ (x : ℕ). x ≡ epoch_of row) (field-word-read row c Mark refl) e))

-- A logged cell has the row's epoch as its mark.
pub logs-mark : (row : List ℕ) (c : ℕ) → logged row (cell c) ≡ true → MarkedNow c row
logs-mark row c t = subst (λ (x : ℕ). x ≡ epoch_of row) (field-word-read row c Mark refl) (eqb-true (field_of row c Mark) (epoch_of row) t)

-- ---- a line

-- A line written back.
pub line-written : (b : Board) (s : State) (l : ℕ) → Lengths (shape_of b.state) b.memory b.cache → l ≤ b.state.lines →
    LineWritten l b (backed l s b)
line-written b s l z h =
    let inside = line-in b.memory l z.memory h in
    let eight = length-line_of b.cache l (line-in b.cache l z.cache h) in
    record {
      written = λ i e. word-backed b.memory b.cache z.memory z.cache l i h e;
      others = λ i o. get_d-with_line-out b.memory l (line_of b.cache l) i inside eight o;
      size = length-with_line b.memory l (line_of b.cache l) inside eight;
      cache = refl;
    }
