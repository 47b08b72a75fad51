-- What is true of bytes as digits, of a word's bytes, and of the texts of a record and of a memory, written part by part.
use Prim.Native.Nat.{ℕ, zero, suc, ◌+◌, ◌*◌, ◌-◌, ◌/◌, ◌%◌, ◌≤◌, ◌<◌}
use mathlib.Core.Path.{◌≡◌, refl, sym, ap, subst, ◌∙◌}
use mathlib.Core.List.{List, [], ◌∷◌, ◌++◌, append_assoc, append-nil}
use mathlib.Core.Bool.{false, ◌&&◌}
use native.Mathlib.Omega.{arith}
use native.Mathlib.Numerals.{add-one}
use lib.Dec.{leb, eqb}
use lib.ListN.{length, get_or, drop, length-append}
use lib.Seq.{drop-cons, drop-length}
use borrow.Author.Tests.{eqb-true, leb-true}
use Rattle.predicate.proofs.Bools.{and_left, and_right, not-off}
use Rattle.text.specs.Ascii.{feed, ':'}
use Rattle.text.specs.Appending.{Appended}
use Rattle.text.specs.Writing.{put}
use Rattle.text.specs.declared.writer.Writer.{Writer}
use Rattle.text.proofs.Writing.{put-put, and_then}
use Rattle.board.specs.Causes.{bad_length}
use Rattle.board.specs.Hex.{bytes_text, sum_of, record_text, low_bytes, word_bytes, hex_from}
use Rattle.intel_hex.proofs.Words.{low-length}

-- ---- bytes as digits

-- Each byte has two.
pub digits-length : (xs : List ℕ) → length (bytes_text xs) ≡ 2 * length xs
unfolding bytes_text
digits-length [] = refl
digits-length (x ∷ xs) = omega (arith, digits-length xs)

-- Those of bytes behind bytes.
pub digits_append : (xs ys : List ℕ) → bytes_text (xs ++ ys) ≡ bytes_text xs ++ bytes_text ys
unfolding bytes_text
digits_append [] ys = refl
digits_append (x ∷ xs) ys = rw (digits_append xs ys)

-- The sum of bytes and bytes.
pub sum-append : (xs ys : List ℕ) → sum_of (xs ++ ys) ≡ sum_of xs + sum_of ys
unfolding sum_of
sum-append [] ys = omega arith
sum-append (x ∷ xs) ys = omega (arith, sum-append xs ys)

-- ---- a word's bytes

-- Each is below 256, and so their sum has a bound.
pub low_sum : (n w : ℕ) → sum_of (low_bytes n w) ≤ 255 * n
unfolding low_bytes sum_of
low_sum zero w = omega arith
low_sum (suc n) w = omega (arith, low_sum n (w / 256))

-- ---- texts behind texts

-- A text written is any that is the same.
pub written_as : {old new : Writer} {t u : List ℕ} → Appended old t new → t ≡ u → Appended old u new
written_as {old} {new} p e = subst (λ (x : List ℕ). Appended old x new) e p

-- A text written behind another is both written.
pub follows : {old mid new : Writer} {t u : List ℕ} → Appended old t mid → Appended mid u new → mid.at ≤ length old.out.now → Appended old (t ++ u) new
follows p q h = record { same = q.same ∙ p.same; long = q.long ∙ p.long; put = and_then p.put q.put h }

-- ---- a record's text

-- The sum of a record's first bytes, its two words' among them.
front-sum : (address v w : ℕ) → sum_of (16 ∷ address / 256 ∷ address % 256 ∷ 0 ∷ (low_bytes 8 v ++ (low_bytes 8 w ++ []))) ≡
    16 + address / 256 + address % 256 + sum_of (low_bytes 8 v) + sum_of (low_bytes 8 w)
unfolding sum_of
front-sum address v w = omega (arith, sum-append (low_bytes 8 v) (low_bytes 8 w ++ []), sum-append (low_bytes 8 w) [])

-- Two words have sixteen bytes.
sixteen : (v w : ℕ) → length (low_bytes 8 v ++ (low_bytes 8 w ++ [])) ≡ 16
sixteen v w = simp (length-append, low-length)

-- What stands before the data of two words, each of them, and what stands behind them.
abbrev parts : ℕ → ℕ → ℕ → ℕ → List ℕ
parts address v w sum =
    (':' ∷ bytes_text (16 ∷ address / 256 ∷ address % 256 ∷ 0 ∷ [])) ++ bytes_text (low_bytes 8 v) ++ bytes_text (low_bytes 8 w)
    ++ (bytes_text ((256 - sum % 256) % 256 ∷ []) ++ (feed ∷ []))

-- They are a record's text.
pub record-parts : (address v w sum : ℕ) → sum ≡ 16 + address / 256 + address % 256 + sum_of (low_bytes 8 v) + sum_of (low_bytes 8 w) →
    parts address v w sum ≡ record_text address 0 (word_bytes (v ∷ w ∷ []))
unfolding record_text word_bytes bytes_text
record-parts address v w sum e =
    let bytes = low_bytes 8 v ++ (low_bytes 8 w ++ []) in
    let shape : ℕ → ℕ → List ℕ =
    (λ n s. ':' ∷ (bytes_text (n ∷ address / 256 ∷ address % 256 ∷ 0 ∷ (bytes ++ ((256 - s % 256) % 256 ∷ []))) ++ (feed ∷ []))) in
    let spread : parts address v w sum ≡ shape 16 sum = simp (digits_append, append_assoc, append-nil) in
    spread
    ∙ ap (shape 16) (e ∙ sym (front-sum address v w))
    ∙ ap (λ (n : ℕ). shape n (sum_of (n ∷ address / 256 ∷ address % 256 ∷ 0 ∷ bytes))) (sym (sixteen v w))

-- It has 44 characters.
pub record-length : (address v w : ℕ) → length (record_text address 0 (word_bytes (v ∷ w ∷ []))) ≡ 44
record-length address v w = ap length (sym (record-parts address v w _ refl)) ∙ simp (length-append, digits-length, low-length)

-- ---- a memory's text

-- The lengths that recovery takes.
pub good_length : (n : ℕ) → bad_length n ≡ false → (n % 8 ≡ 0) × (n ≤ 4096)
good_length n e =
    let all = not-off (eqb (n % 8) 0 && leb 16 n && leb n 4096) e in
    let front = and_left (eqb (n % 8) 0 && leb 16 n) (leb n 4096) all in
    (eqb-true (n % 8) 0 (and_left (eqb (n % 8) 0) (leb 16 n) front), leb-true n 4096 (and_right (eqb (n % 8) 0 && leb 16 n) (leb n 4096) all))

-- The words from `i` on, the first two of them apart.
two-front : (memory : List ℕ) (i : ℕ) → i + 1 < length memory → drop i memory ≡ get_or memory i 0 ∷ get_or memory (i + 1) 0 ∷ drop (i + 2) memory
two-front memory i h =
    let past : suc (i + 1) ≡ i + 2 = omega arith in
    drop-cons memory i 0 (omega arith)
    ∙ ap (λ (l : List ℕ). get_or memory i 0 ∷ l)
    (ap (λ (k : ℕ). drop k memory) (sym (add-one i)) ∙ drop-cons memory (i + 1) 0 h ∙ ap (λ (k : ℕ). get_or memory (i + 1) 0 ∷ drop k memory) past)

-- A record written before the text of the words behind it, two words a record.
pub record-put : (text after memory : List ℕ) (i : ℕ) → 2 * i + 1 < length memory → 44 * i + 44 ≤ length text →
    after ≡ put text (44 * i) (record_text (16 * i) 0 (word_bytes (get_or memory (2 * i) 0 ∷ get_or memory (2 * i + 1) 0 ∷ []))) →
    put after (44 * (i + 1)) (hex_from (16 * (i + 1)) (drop (2 * (i + 1)) memory)) ≡ put text (44 * i) (hex_from (16 * i) (drop (2 * i) memory))
unfolding hex_from
record-put text after memory i h room e =
    let v = get_or memory (2 * i) 0 in
    let w = get_or memory (2 * i + 1) 0 in
    let here = record_text (16 * i) 0 (word_bytes (v ∷ w ∷ [])) in
    let rest = hex_from (16 * (i + 1)) (drop (2 * (i + 1)) memory) in
    let ends : 44 * (i + 1) ≡ 44 * i + length here = omega (arith, record-length (16 * i) v w) in
    let next : 16 * i + 16 ≡ 16 * (i + 1) = omega arith in
    let past : 2 * i + 2 ≡ 2 * (i + 1) = omega arith in
    let both : hex_from (16 * i) (drop (2 * i) memory) ≡ here ++ rest =
    ap (hex_from (16 * i)) (two-front memory (2 * i) h) ∙ (λ k. here ++ hex_from (next k) (drop (past k) memory)) in
    ap (λ (row : List ℕ). put row (44 * (i + 1)) rest) e
    ∙ ap (λ (k : ℕ). put (put text (44 * i) here) k rest) ends
    ∙ put-put text (44 * i) here rest (omega arith)
    ∙ ap (put text (44 * i)) (sym both)

-- Behind the last word there is the end record.
pub end-left : (memory : List ℕ) (i : ℕ) → 2 * i ≡ length memory → hex_from (16 * i) (drop (2 * i) memory) ≡ record_text 0 1 []
unfolding hex_from
end-left memory i e = ap (hex_from (16 * i)) (ap (λ (k : ℕ). drop k memory) e ∙ drop-length memory)
