-- Laws of the words that bytes write, the lowest first, and of the bytes of words.
use Prim.Native.Nat.{ℕ, zero, suc, ◌+◌, ◌*◌, ◌/◌, ◌%◌, ◌^◌, ◌<◌}
use mathlib.Core.Path.{◌≡◌, refl, sym, ap, ap₂, subst, ◌∙◌}
use mathlib.Core.List.{List, [], ◌∷◌, ◌++◌, append_assoc}
use mathlib.Core.Bool.{true}
use native.Mathlib.Omega.{arith}
use native.Mathlib.Nat.{pow-succ'}
use lib.Dec.{ltb}
use lib.ListN.{length, take, drop, length-append, length-drop, take-append-drop}
use lib.Seq.{length-take-le, take_at, drop_at}
use borrow.Author.Tests.{ltb-true, lt-ltb}
use Rattle.predicate.proofs.Bools.{and_left, and_right, and_both}
use Rattle.board.specs.Hex.{all_bytes, low_bytes, word_bytes, word_of, words_of}
use Rattle.intel_hex.specs.Statements.{AllWords}

-- ---- lists of bytes

-- The first number is a byte.
pub bytes-first : (b : ℕ) (bs : List ℕ) → all_bytes (b ∷ bs) ≡ true → b < 256
unfolding all_bytes
bytes-first b bs e = ltb-true b 256 (and_left (ltb b 256) (all_bytes bs) e)

-- So are the others.
pub bytes_rest : (b : ℕ) (bs : List ℕ) → all_bytes (b ∷ bs) ≡ true → all_bytes bs ≡ true
unfolding all_bytes
bytes_rest b bs e = and_right (ltb b 256) (all_bytes bs) e

-- No number at all.
pub bytes-none : all_bytes [] ≡ true
unfolding all_bytes
bytes-none = refl

-- A byte in front of bytes.
pub bytes-more : (b : ℕ) (bs : List ℕ) → b < 256 → all_bytes bs ≡ true → all_bytes (b ∷ bs) ≡ true
unfolding all_bytes
bytes-more b bs h e = and_both (ltb b 256) (all_bytes bs) (lt-ltb b 256 h) e

-- Bytes and bytes.
pub bytes-append : (a b : List ℕ) → all_bytes a ≡ true → all_bytes b ≡ true → all_bytes (a ++ b) ≡ true
bytes-append [] b e f = f
bytes-append (x ∷ a) b e f = bytes-more x (a ++ b) (bytes-first x a e) (bytes-append a b (bytes_rest x a e) f)

-- Where both parts together are bytes, each part is.
pub bytes-split : (a b : List ℕ) → all_bytes (a ++ b) ≡ true → (all_bytes a ≡ true) × (all_bytes b ≡ true)
unfolding all_bytes
bytes-split [] b e = (refl, e)
bytes-split (x ∷ a) b e =
    let rest = bytes-split a b (bytes_rest x (a ++ b) e) in (bytes-more x a (bytes-first x (a ++ b) e) rest.0, rest.1)

-- ---- one word

-- There are as many low bytes as asked for.
pub low-length : (n w : ℕ) → length (low_bytes n w) ≡ n
unfolding low_bytes
low-length zero w = refl
low-length (suc n) w = ap suc (low-length n (w / 256))

-- They are bytes.
low-bytes : (n w : ℕ) → all_bytes (low_bytes n w) ≡ true
unfolding low_bytes all_bytes
low-bytes zero w = refl
low-bytes (suc n) w = bytes-more (w % 256) (low_bytes n (w / 256)) (omega arith) (low-bytes n (w / 256))

-- A number with no more bytes than these is written by them.
low_word : (n w : ℕ) → w < 256 ^ n → word_of (low_bytes n w) ≡ w
unfolding low_bytes word_of
low_word zero w h = omega arith
low_word (suc n) w h = omega (arith, low_word n (w / 256) (omega arith))

-- The low bytes of the number that bytes write are these.
word_low : (bs : List ℕ) → all_bytes bs ≡ true → low_bytes (length bs) (word_of bs) ≡ bs
unfolding low_bytes word_of
word_low [] e = refl
word_low (b ∷ bs) e =
    let small = bytes-first b bs e in
    let low : (b + 256 * word_of bs) % 256 ≡ b = omega arith in
    let high : (b + 256 * word_of bs) / 256 ≡ word_of bs = omega arith in
    ap₂ (λ (x : ℕ) (l : List ℕ). x ∷ l) low (ap (low_bytes (length bs)) high ∙ word_low bs (bytes_rest b bs e))

-- The number that bytes write has no more bytes than these.
pub word_bound : (bs : List ℕ) → all_bytes bs ≡ true → word_of bs < 256 ^ length bs
unfolding word_of
word_bound [] e = omega arith
word_bound (b ∷ bs) e = omega (arith, bytes-first b bs e, word_bound bs (bytes_rest b bs e), pow-succ' 256 (length bs))

-- ---- words

-- A memory has eight bytes a word.
pub eight-each : (memory : List ℕ) → length (word_bytes memory) ≡ 8 * length memory
unfolding word_bytes
eight-each [] = refl
eight-each (w ∷ ws) = omega (arith, length-append (low_bytes 8 w) (word_bytes ws), low-length 8 w, eight-each ws)

-- They are bytes.
pub words-bytes : (memory : List ℕ) → all_bytes (word_bytes memory) ≡ true
unfolding word_bytes all_bytes
words-bytes [] = refl
words-bytes (w ∷ ws) = bytes-append (low_bytes 8 w) (word_bytes ws) (low-bytes 8 w) (words-bytes ws)

-- The bytes of words and words.
pub words_append : (a b : List ℕ) → word_bytes (a ++ b) ≡ word_bytes a ++ word_bytes b
unfolding word_bytes
words_append [] b = refl
words_append (w ∷ a) b = ap (λ (l : List ℕ). low_bytes 8 w ++ l) (words_append a b) ∙ sym (append_assoc (low_bytes 8 w) (word_bytes a) (word_bytes b))

-- The words that words' bytes write are these.
pub words_back : (memory : List ℕ) → AllWords memory → words_of (length memory) (word_bytes memory) ≡ memory
unfolding word_bytes words_of
words_back [] h = refl
words_back (w ∷ ws) h =
    let size = low-length 8 w in
    ap₂
    (λ (x : ℕ) (l : List ℕ). x ∷ l)
    (ap word_of (take_at (low_bytes 8 w) (word_bytes ws) 8 size) ∙ low_word 8 w (h 0))
    (ap (words_of (length ws)) (drop_at (low_bytes 8 w) (word_bytes ws) 8 size) ∙ words_back ws (λ i. h (suc i)))

-- There are as many words as asked for.
pub words-length : (n : ℕ) (bytes : List ℕ) → length (words_of n bytes) ≡ n
unfolding words_of
words-length zero bytes = refl
words-length (suc n) bytes = ap suc (words-length n (drop 8 bytes))

-- Eight bytes a word: the first eight of them, and the others.
record Eights (n : ℕ) (bytes : List ℕ) : Type 0 where
  size : length (take 8 bytes) ≡ 8
  first : all_bytes (take 8 bytes) ≡ true
  others : length (drop 8 bytes) ≡ 8 * n
  rest : all_bytes (drop 8 bytes) ≡ true

-- Bytes for one word more are such.
eights : (n : ℕ) (bytes : List ℕ) → length bytes ≡ 8 * suc n → all_bytes bytes ≡ true → Eights n bytes
eights n bytes h e =
    let parts = bytes-split (take 8 bytes) (drop 8 bytes) (subst (λ (l : List ℕ). all_bytes l ≡ true) (sym (take-append-drop 8 bytes)) e) in
    record { size = length-take-le 8 bytes (omega arith); first = parts.0; others = omega (arith, length-drop 8 bytes); rest = parts.1 }

-- The bytes of the words that bytes write, eight each, are these.
pub bytes_back : (n : ℕ) (bytes : List ℕ) → length bytes ≡ 8 * n → all_bytes bytes ≡ true → word_bytes (words_of n bytes) ≡ bytes
unfolding word_bytes words_of
bytes_back zero [] h e = refl
bytes_back zero (b ∷ bytes) h e = absurd (omega arith)
bytes_back (suc n) bytes h e =
    let g = eights n bytes h e in
    ap₂
    (λ (a b : List ℕ). a ++ b)
    (ap (λ (k : ℕ). low_bytes k (word_of (take 8 bytes))) (sym g.size) ∙ word_low (take 8 bytes) g.first)
    (bytes_back n (drop 8 bytes) g.others g.rest)
    ∙ take-append-drop 8 bytes

-- Each number that eight bytes write is a word.
pub all_words : (n : ℕ) (bytes : List ℕ) → length bytes ≡ 8 * n → all_bytes bytes ≡ true → AllWords (words_of n bytes)
unfolding words_of
all_words zero bytes h e i = omega arith
all_words (suc n) bytes h e zero =
    let g = eights n bytes h e in
    subst (λ (k : ℕ). word_of (take 8 bytes) < 256 ^ k) g.size (word_bound (take 8 bytes) g.first)
all_words (suc n) bytes h e (suc i) = let g = eights n bytes h e in all_words n (drop 8 bytes) g.others g.rest i
