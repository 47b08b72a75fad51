-- What a line's part of a row is: `row[8 * l .. 8 * l + 8]`, lent to a leaf and given back.
use mathlib.Core.Path.{◌≡◌, ◌∙◌, ap}
use mathlib.Core.List.{List}
use Prim.Native.Nat.{ℕ, ◌+◌, ◌-◌, ◌≤◌, ◌<◌}
use native.Mathlib.Omega.{arith}
use lib.ListN.{length, get_or, set}
use borrow.Rule.Slice.PartMut.{mid_of, put_mid}
use Rattle.line.specs.declared.Field.{Field}
use Rattle.line.specs.Line.{line_start, line_of, with_line}
use Rattle.line.specs.Cell.{cell_line, cell_word, field_offset, field_index, field_of, with_field}
use Rattle.line.proofs.Laws.{offset-bound, span, get_d-line_of, with_line-set}

-- The part of a row that is lent for a line.
abbrev pub lent : List ℕ → ℕ → List ℕ
lent row l = mid_of (line_start l) (line_start l + 8 - line_start l) row

-- The row with that part given back as `words`.
abbrev pub back : List ℕ → ℕ → List ℕ → List ℕ
back row l words = put_mid (line_start l) (line_start l + 8 - line_start l) row words

-- The part that is lent is the line.
pub lent-line : (row : List ℕ) (l : ℕ) → lent row l ≡ line_of row l
unfolding line_of
lent-line row l = rw (span l)

-- A part given back as `words` is a line stored.
pub back-line : (row : List ℕ) (l : ℕ) {last words : List ℕ} → last ≡ words → back row l last ≡ with_line row l words
unfolding with_line
back-line row l e = rw (span l, e)

-- A part given back as it was lent of another row is that row's line stored.
pub line-filled : (row other : List ℕ) (l : ℕ) {last : List ℕ} → last ≡ lent other l → back row l last ≡ with_line row l (line_of other l)
line-filled row other l e = back-line row l (e ∙ lent-line other l)

module _ (row : List ℕ) (c : ℕ) (f : Field) {l : ℕ} (e : l ≡ cell_line c) where
  -- A cell's word, read in the part, is its field.
  pub field-read : {v : ℕ} → v ≡ get_or (lent row l) (cell_word c + field_offset f) 0 → v ≡ field_of row c f
  unfolding field_of field_index
  field-read p =
      p
      ∙ ap (λ (part : List ℕ). get_or part (cell_word c + field_offset f) 0) (lent-line row l)
      ∙ get_d-line_of row l (cell_word c + field_offset f) (omega (arith, offset-bound f))
      ∙ ap (λ (n : ℕ). get_or row (line_start n + (cell_word c + field_offset f)) 0) e

  -- A part given back with a cell's word stored is a field stored.
  pub field_stored : (v : ℕ) {last : List ℕ} → line_start (cell_line c) + 8 ≤ length row → last ≡ set (lent row l) (cell_word c + field_offset f) v →
      back row l last ≡ with_field row c f v
  unfolding with_field field_index
  field_stored v h p =
      back-line row l (p ∙ ap (λ (part : List ℕ). set part (cell_word c + field_offset f) v) (lent-line row l))
      ∙ with_line-set row l (cell_word c + field_offset f) v (omega arith) (omega (arith, offset-bound f))
      ∙ ap (λ (n : ℕ). set row (line_start n + (cell_word c + field_offset f)) v) e

module _ (row : List ℕ) (k : ℕ) (b : k < 8) where
  -- A word of line 0's part is the row's.
  pub header_read : {v : ℕ} → v ≡ get_or (lent row 0) k 0 → v ≡ get_or row k 0
  header_read p = p ∙ ap (λ (part : List ℕ). get_or part k 0) (lent-line row 0) ∙ get_d-line_of row 0 k b ∙ ap (λ (i : ℕ). get_or row i 0) (let z : 0 + k ≡ k = omega arith in z)

  -- Line 0's part given back with a word stored is the row with it stored.
  pub header-stored : (v : ℕ) {last : List ℕ} → 8 ≤ length row → last ≡ set (lent row 0) k v → back row 0 last ≡ set row k v
  header-stored v h p =
      back-line row 0 (p ∙ ap (λ (part : List ℕ). set part k v) (lent-line row 0)) ∙ with_line-set row 0 k v h b ∙ ap (λ (i : ℕ). set row i v) (let z : 0 + k ≡ k = omega arith in z)
