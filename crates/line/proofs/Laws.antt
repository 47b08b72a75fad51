-- What is true of the definitions of specs/: a line or a field reads as it was last stored, and no other word changes.
use mathlib.Core.Path.{◌≡◌, ◌∙◌, sym, ap, subst}
use mathlib.Core.List.{List}
use Prim.Native.Nat.{ℕ, ◌+◌, ◌-◌, ◌/◌, ◌≤◌, ◌<◌}
use native.Mathlib.Decide.{dec_lt}
use native.Mathlib.Omega.{arith}
use lib.ListN.{length, take, drop, get_or, set, replicate, length-set, length-take, length-drop, length-replicate, get_or-replicate, get_or-append}
use lib.Seq.{get_or-set_same, get_or-set_other, get_or-take, get_or-drop, get_or-append-add, length-take-le}
use borrow.Rule.Slice.PartMut.{same_len_mid, set_mid_at, take_put, drop_put}
use Rattle.line.specs.declared.Field.{Field}
use Rattle.line.specs.declared.Field.TheVariants.{Record, Backup, Mark}
use Rattle.line.specs.Line.{line_start, line_of, with_line}
use Rattle.line.specs.Cell.{cell_line, cell_word, field_offset, field_index, field_of, with_field}

-- A cell has three fields.
pub offset-bound : (f : Field) → field_offset f < 3
offset-bound Record = omega arith
offset-bound Backup = omega arith
offset-bound Mark = omega arith

-- A line's part of a row, from its first word to the next line's, is eight words.
pub span : (l : ℕ) → line_start l + 8 - line_start l ≡ 8
span l = omega arith

-- A line that the row has is eight words.
pub length-line_of : (row : List ℕ) (l : ℕ) → line_start l + 8 ≤ length row → length (line_of row l) ≡ 8
unfolding line_of
length-line_of row l h = simp (length-take, length-drop) (omega arith)

-- A row keeps its length where a line is stored.
pub length-with_line : (row : List ℕ) (l : ℕ) (words : List ℕ) → line_start l + 8 ≤ length row → length words ≡ 8 → length (with_line row l words) ≡ length row
unfolding with_line line_of
length-with_line row l words h n = same_len_mid (line_start l) 8 row words (n ∙ sym (length-line_of row l h))

-- A word of a line is the row's word there.
pub get_d-line_of : (row : List ℕ) (l k : ℕ) → k < 8 → get_or (line_of row l) k 0 ≡ get_or row (line_start l + k) 0
unfolding line_of
get_d-line_of row l k h = get_or-take 8 (drop (line_start l) row) k 0 h ∙ get_or-drop (line_start l) row k 0

-- A stored line has the words that were given.
pub get_d-with_line-in : (row : List ℕ) (l : ℕ) (words : List ℕ) (k : ℕ) → line_start l + 8 ≤ length row → length words ≡ 8 → k < 8 →
    get_or (with_line row l words) (line_start l + k) 0 ≡ get_or words k 0
unfolding with_line
get_d-with_line-in row l words k h n b =
    let a : length (take (line_start l) row) ≡ line_start l = length-take-le (line_start l) row (omega arith) in
    subst (λ (i : ℕ). get_or (with_line row l words) (i + k) 0 ≡ get_or words k 0) a
    (get_or-append-add (take (line_start l) row) _ k 0 ∙ get_or-append words _ 0 k (omega arith))

-- The words before a stored line are as they were.
pub get_d-with_line-before : (row : List ℕ) (l : ℕ) (words : List ℕ) (i : ℕ) → line_start l + 8 ≤ length row → i < line_start l →
    get_or (with_line row l words) i 0 ≡ get_or row i 0
unfolding with_line
get_d-with_line-before row l words i h b =
    sym (get_or-take (line_start l) (with_line row l words) i 0 b)
    ∙ ap (λ (xs : List ℕ). get_or xs i 0) (take_put (line_start l) 8 row words (omega arith))
    ∙ get_or-take (line_start l) row i 0 b

-- What lies after a stored line is as it was.
drop-with_line : (row : List ℕ) (l : ℕ) (words : List ℕ) → line_start l + 8 ≤ length row → length words ≡ 8 →
    drop (line_start l + 8) (with_line row l words) ≡ drop (line_start l + 8) row
unfolding with_line
drop-with_line row l words h n =
    rw (span l) at (drop_put (line_start l) (line_start l + 8) row words (omega arith) h (n ∙ sym (span l)))

-- The words after a stored line are as they were.
pub get_d-with_line-after : (row : List ℕ) (l : ℕ) (words : List ℕ) (i : ℕ) → line_start l + 8 ≤ length row → length words ≡ 8 → line_start l + 8 ≤ i →
    get_or (with_line row l words) i 0 ≡ get_or row i 0
get_d-with_line-after row l words i h n b =
    let k = i - (line_start l + 8) in
    let e : line_start l + 8 + k ≡ i = omega arith in
    subst (λ (j : ℕ). get_or (with_line row l words) j 0 ≡ get_or row j 0) e
    (sym (get_or-drop (line_start l + 8) (with_line row l words) k 0)
    ∙ ap (λ (xs : List ℕ). get_or xs k 0) (drop-with_line row l words h n)
    ∙ get_or-drop (line_start l + 8) row k 0)

-- The words of every other line are as they were.
pub get_d-with_line-out : (row : List ℕ) (l : ℕ) (words : List ℕ) (i : ℕ) → line_start l + 8 ≤ length row → length words ≡ 8 → (i / 8 ≡ l → ⊥) →
    get_or (with_line row l words) i 0 ≡ get_or row i 0
get_d-with_line-out row l words i h n o =
    elim (dec_lt i (line_start l)) [
      | yes b ↦ get_d-with_line-before row l words i h b
      | no b ↦ get_d-with_line-after row l words i h n (omega arith)
    ]

-- A store in a line's words is a store in the row.
pub with_line-set : (row : List ℕ) (l k value : ℕ) → line_start l + 8 ≤ length row → k < 8 →
    with_line row l (set (line_of row l) k value) ≡ set row (line_start l + k) value
unfolding with_line line_of
with_line-set row l k value h b =
    set_mid_at (line_start l) 8 k row value (omega (arith, length-line_of row l h))

-- A row keeps its length where a field is stored.
pub length-with_field : (row : List ℕ) (c : ℕ) (f : Field) (v : ℕ) → length (with_field row c f v) ≡ length row
unfolding with_field
length-with_field row c f v = length-set row (field_index c f) v

-- A store changes no word but the field's own.
pub get_d-with_field-other : (row : List ℕ) (c : ℕ) (f : Field) (v i : ℕ) → (field_index c f ≡ i → ⊥) → get_or (with_field row c f v) i 0 ≡ get_or row i 0
unfolding with_field
get_d-with_field-other row c f v i o = get_or-set_other row (field_index c f) i v 0 (λ e. o (sym e))

-- A field reads as it was stored.
pub field-same : (row : List ℕ) (c : ℕ) (f : Field) (v : ℕ) → line_start (cell_line c) + 8 ≤ length row → field_of (with_field row c f v) c f ≡ v
unfolding field_of with_field field_index
field-same row c f v h = get_or-set_same row (field_index c f) v 0 (omega (arith, offset-bound f))

-- A store in one field of a cell leaves its other fields.
pub field-other-field : (row : List ℕ) (c : ℕ) (f : Field) (v : ℕ) (g : Field) → (field_offset f ≡ field_offset g → ⊥) →
    field_of (with_field row c f v) c g ≡ field_of row c g
unfolding field_of field_index
field-other-field row c f v g o =
    get_d-with_field-other row c f v (field_index c g) (λ e. o (omega arith))

-- A field in a stored line is the given words'.
pub field-with_line : (row : List ℕ) (c : ℕ) (words : List ℕ) (f : Field) → line_start (cell_line c) + 8 ≤ length row → length words ≡ 8 →
    field_of (with_line row (cell_line c) words) c f ≡ get_or words (cell_word c + field_offset f) 0
unfolding field_of field_index
field-with_line row c words f h n =
    get_d-with_line-in row (cell_line c) words (cell_word c + field_offset f) h n (omega (arith, offset-bound f))

-- A line of zeros brings fields that are zero.
pub field-with_line-zero : (row : List ℕ) (c : ℕ) (f : Field) → line_start (cell_line c) + 8 ≤ length row →
    field_of (with_line row (cell_line c) (replicate 8 0)) c f ≡ 0
field-with_line-zero row c f h =
    field-with_line row c (replicate 8 0) f h (length-replicate {A = ℕ} 8 0)
    ∙ get_or-replicate 8 (cell_word c + field_offset f) 0 0 (omega (arith, offset-bound f))

-- A cell's store leaves the header's words.
pub header-with_field : (row : List ℕ) (c : ℕ) (f : Field) (v k : ℕ) → k < 8 → get_or (with_field row c f v) k 0 ≡ get_or row k 0
unfolding field_index
header-with_field row c f v k b = get_d-with_field-other row c f v k (λ e. omega arith)

-- A stored line other than line 0 leaves the header's words.
pub header-with_line : (row : List ℕ) (l : ℕ) (words : List ℕ) (k : ℕ) → line_start l + 8 ≤ length row → 0 < l → k < 8 →
    get_or (with_line row l words) k 0 ≡ get_or row k 0
header-with_line row l words k h p b = get_d-with_line-before row l words k h (omega arith)

-- A word among the first six of a line is no word 6 or 7.
apart : (a l w k : ℕ) → w < 6 → 6 ≤ k → k < 8 → line_start a + w ≡ line_start l + k → ⊥
apart a l w k p q r e = omega arith

-- A cell's store leaves words 6 and 7 of every line.
pub spare-with_field : (row : List ℕ) (c : ℕ) (f : Field) (v l k : ℕ) → 6 ≤ k → k < 8 →
    get_or (with_field row c f v) (line_start l + k) 0 ≡ get_or row (line_start l + k) 0
unfolding field_index
spare-with_field row c f v l k a b =
    get_d-with_field-other row c f v (line_start l + k)
    (apart (cell_line c) l (cell_word c + field_offset f) k (omega (arith, offset-bound f)) a b)
