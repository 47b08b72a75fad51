-- What is true of a page's lines.
use Prim.Native.Nat.{ℕ, zero, suc, ◌+◌, ◌*◌, ◌≤◌, ◌<◌}
use mathlib.Core.Path.{◌≡◌, refl, sym, ap, ◌∙◌}
use mathlib.Core.List.{List, [], ◌∷◌, ◌++◌, map, map-append, flatten, append-nil, append_assoc}
use native.Mathlib.Omega.{arith}
use native.Mathlib.Nat.{add_comm, mul-zero, mul-suc}
use native.Mathlib.Numerals.{add-one}
use lib.ListN.{length, get_or, take, drop, length-append}
use lib.Seq.{take-suc, take_at, drop_at, drop-drop}
use Rattle.text.specs.Ascii.{blank, feed}
use Rattle.text.specs.Numbers.{number_text}
use Rattle.text.specs.Writing.{put, Put, aligned}
use Rattle.text.proofs.Numbers.{number-width, word_width}
use Rattle.text.proofs.Writing.{aligned-size, in-column}
use Rattle.line.specs.declared.Field.{Field}
use Rattle.line.specs.Cell.{field_index, field_of}
use Rattle.board.specs.Board.{shaped, cells}
use Rattle.board.specs.Page.{field_text, line_text, heading_text, cell_text, cell_order, page_text, line_bytes}
use Rattle.page.specs.Statements.{Words, Lines}
use Rattle.page.proofs.Ordering.{order-length, cell_below}

-- Texts one behind another, and one more.
flatten-snoc : (l : List (List ℕ)) (t : List ℕ) → flatten (l ++ (t ∷ [])) ≡ flatten l ++ t
unfolding flatten
flatten-snoc [] t = append-nil t
flatten-snoc (u ∷ l) t = ap (λ (r : List ℕ). u ++ r) (flatten-snoc l t) ∙ sym (append_assoc u (flatten l) t)

-- The lines of the first cells, and one cell more.
pub lines_more : (f : ℕ → List ℕ) (cells : List ℕ) (i : ℕ) → i < length cells →
    flatten (map f (take i cells)) ++ f (get_or cells i 0) ≡ flatten (map f (take (i + 1) cells))
lines_more f cells i h =
    sym (flatten-snoc (map f (take i cells)) (f (get_or cells i 0)))
    ∙ ap flatten (sym (map-append f (take i cells) (get_or cells i 0 ∷ [])))
    ∙ ap (λ (l : List ℕ). flatten (map f l)) (sym (take-suc cells i 0 h))
    ∙ ap (λ (n : ℕ). flatten (map f (take n cells))) (sym (add-one i))

-- ---- how long they are

-- A text that fits its column fills it with blanks, and one byte stands behind.
field-size : (width : ℕ) (text : List ℕ) (behind : ℕ) → length text ≤ width → length (field_text width text behind) ≡ width + 1
field-size width text behind h =
    length-append (aligned width text) (behind ∷ []) ∙ omega (arith, aligned-size width text h)

-- A line whose texts fit their columns has 68 bytes.
line-size : (a b c d : List ℕ) → length a ≤ 4 → length b ≤ 20 → length c ≤ 20 → length d ≤ 20 → length (line_text a b c d) ≡ line_bytes
unfolding line_text
line-size a b c d ha hb hc hd =
    let x = field_text 4 a blank in
    let y = field_text 20 b blank in
    let z = field_text 20 c blank in
    let w = field_text 20 d feed in
    length-append (x ++ y ++ z) w
    ∙ omega (arith, length-append (x ++ y) z, length-append x y, field-size 4 a blank ha, field-size 20 b blank hb, field-size 20 c blank hc, field-size 20 d feed hd)

heading-size : length heading_text ≡ line_bytes
unfolding line_text
heading-size = refl

-- A cell's line has 68 bytes.
cell-size : (cache : List ℕ) → Words cache → (c : ℕ) → c < 10000 → length (cell_text cache c) ≡ line_bytes
unfolding field_of
cell-size cache words c h =
    line-size (number_text c) _ _ _ (number-width 3 c (omega arith))
    (word_width _ (words (field_index c Field.Record))) (word_width _ (words (field_index c Field.Backup))) (word_width _ (words (field_index c Field.Mark)))

-- ---- how one is written

-- Four texts written into a blank line, each up to the end of its column, are the line of them.
pub line-put : {row r0 r1 r2 r3 r4 a b c d : List ℕ} {at i j k l : ℕ} → at + 68 ≤ length row → length a ≤ 4 → length b ≤ 20 → length c ≤ 20 → length d ≤ 20 →
    r0 ≡ put row at (line_text [] [] [] []) → Put r0 i a r1 (at + 4) → Put r1 j b r2 (at + 25) → Put r2 k c r3 (at + 46) → Put r3 l d r4 (at + 67) →
    Put row at (line_text a b c d) r4 (at + 68)
unfolding line_text
line-put {row} {r0} {a = a} {b = b} {c = c} {at = at} room ha hb hc hd p qa qb qc qd =
    let x = field_text 4 a blank in
    let y = field_text 20 b blank in
    let z = field_text 20 c blank in
    let none = field_text 20 [] blank in
    let last = field_text 20 [] feed in
    let sx = field-size 4 a blank ha in
    let sy = field-size 20 b blank hb in
    let sz = field-size 20 c blank hc in
    let p0 : Put row at (line_text [] [] [] []) r0 (at + 68) = record { ends = refl; holds = p } in
    let p1 = in-column (λ t. line_text t [] [] []) [] ((blank ∷ []) ++ none ++ none ++ last) 4 (λ t. simp append_assoc) p0 qa ha (omega arith) room in
    let p2 = in-column (λ t. line_text a t [] []) x ((blank ∷ []) ++ none ++ last) 20 (λ t. simp append_assoc) p1 qb hb (omega arith) room in
    let p3 = in-column (λ t. line_text a b t []) (x ++ y) ((blank ∷ []) ++ last) 20 (λ t. simp append_assoc) p2 qc hc (omega (arith, length-append x y)) room in
    in-column (λ t. line_text a b c t) (x ++ y ++ z) (feed ∷ []) 20 (λ t. simp append_assoc) p3 qd hd (omega (arith, length-append (x ++ y) z, length-append x y)) room

-- ---- where they stand

module _ (size : ℕ) (f : ℕ → List ℕ) where
  -- Every text of the list has as many bytes.
  abbrev Uniform : List ℕ → Type 0
  Uniform l = (i : ℕ) → i < length l → length (f (get_or l i 0)) ≡ size

  rest-uniform : (a : ℕ) (l : List ℕ) → Uniform (a ∷ l) → Uniform l
  rest-uniform a l u i h = u (suc i) (omega arith)

  -- They are as many bytes together.
  all-size : (l : List ℕ) → Uniform l → length (flatten (map f l)) ≡ size * length l
  unfolding flatten
  all-size [] u = omega arith
  all-size (a ∷ l) u =
      length-append (f a) (flatten (map f l)) ∙ ap₂ (u 0 (omega arith)) (all-size l (rest-uniform a l u)) ∙ sym (one_more size (length l))
    where
      ap₂ : {m n j k : ℕ} → m ≡ n → j ≡ k → m + j ≡ n + k
      ap₂ p q = λ i. p i + q i

      one_more : (m n : ℕ) → m * suc n ≡ m + m * n
      one_more m n = mul-suc m n ∙ add_comm (m * n) m

  -- The text at a place.
  text_at : (l : List ℕ) (i : ℕ) → Uniform l → i < length l → take size (drop (size * i) (flatten (map f l))) ≡ f (get_or l i 0)
  unfolding flatten
  text_at [] i u h = absurd (omega arith)
  text_at (a ∷ l) zero u h =
      ap (λ (k : ℕ). take size (drop k (f a ++ flatten (map f l)))) (mul-zero size)
      ∙ take_at (f a) (flatten (map f l)) size (u 0 (omega arith))
  text_at (a ∷ l) (suc i) u h =
      ap (λ (k : ℕ). take size (drop k (f a ++ flatten (map f l)))) (mul-suc size i ∙ add_comm (size * i) size)
      ∙ ap (take size) (sym (drop-drop (size * i) size (f a ++ flatten (map f l))) ∙ ap (drop (size * i)) (drop_at (f a) (flatten (map f l)) size (u 0 (omega arith))))
      ∙ text_at l i (rest-uniform a l u) (omega arith)

-- The lines of a page.
pub page-lines : (cache : List ℕ) → Words cache → (l : ℕ) → l ≤ 511 → Lines cache (cells (shaped l))
unfolding page_text
page-lines cache words l h =
    let n = cells (shaped l) in
    let order = cell_order cache n in
    let text = flatten (map (cell_text cache) order) in
    let sized : (i : ℕ) → i < n → length (cell_text cache (get_or order i 0)) ≡ line_bytes =
    (λ i g. cell-size cache words (get_or order i 0) (omega (arith, cell_below cache n i g))) in
    let uniform : Uniform line_bytes (cell_text cache) order = (λ i g. sized i (omega (arith, order-length cache n))) in
    record {
      heading = take_at heading_text text line_bytes heading-size;
      line = λ i g.
          ap (λ (k : ℕ). take line_bytes (drop k (heading_text ++ text))) (mul-add-one i)
          ∙ ap (take line_bytes) (sym (drop-drop (line_bytes * i) line_bytes (heading_text ++ text)) ∙ ap (drop (line_bytes * i)) (drop_at heading_text text line_bytes heading-size))
          ∙ text_at line_bytes (cell_text cache) order i uniform (omega (arith, order-length cache n));
      sizes = sized;
      size = length-append heading_text text ∙ omega (arith, heading-size, all-size line_bytes (cell_text cache) order uniform, order-length cache n);
    }
  where
    mul-add-one : (i : ℕ) → line_bytes * (i + 1) ≡ line_bytes + line_bytes * i
    mul-add-one i = omega arith
