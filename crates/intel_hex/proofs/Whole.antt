-- Whole words of a text: made of sixteen digits each, eight at once, and stored one after the other.
use Prim.Native.Nat.{ℕ, zero, suc, ◌+◌, ◌*◌, ◌-◌, ◌/◌, ◌%◌, ◌^◌, ◌≤◌, ◌<◌}
use mathlib.Core.Path.{◌≡◌, refl, sym, ap, ap₂, subst, ◌∙◌}
use mathlib.Core.List.{List, ◌∷◌}
use mathlib.Core.Bool.{true}
use native.Mathlib.Omega.{arith}
use lib.ListN.{length, get_or, drop, set, length-set}
use lib.Bits.{bit_and, and_block, and_mask, and_high}
use lib.Seq.{drop-drop, get_or-set_other}
use Rattle.board.specs.Hex.{hex_digit, byte_of, bytes_in, all_bytes, word_of}
use Rattle.intel_hex.specs.Lanes.{lanes}
use Rattle.intel_hex.specs.Storing.{eight_of, stored}
use Rattle.intel_hex.proofs.Digits.{digit-place, digit-under, by_digits}
use Rattle.intel_hex.proofs.Lanes.{same-lanes, and-lanes, low-twos}
use Rattle.intel_hex.proofs.Parsing.{in-length, in-next}
use Rattle.intel_hex.proofs.Words.{bytes-none, bytes-more, word_bound}
use Rattle.intel_hex.proofs.Stored.{text-byte}
use Rattle.intel_hex.proofs.Shifting.{eight}

-- A part of bytes that all are bytes.
pub all-part : (n : ℕ) (text : List ℕ) → all_bytes (bytes_in n text) ≡ true → (k m : ℕ) → k + m ≤ n → all_bytes (bytes_in m (drop (2 * k) text)) ≡ true
unfolding bytes_in
all-part n text e k zero h = bytes-none
all-part n text e k (suc m) h =
    subst (λ (l : List ℕ). all_bytes l ≡ true) (sym (in-next m text k))
    (bytes-more (byte_of (get_or text (2 * k) 0) (get_or text (2 * k + 1) 0)) (bytes_in m (drop (2 * (k + 1)) text)) (text-byte n text k e (omega arith))
    (all-part n text e (k + 1) m (omega arith)))

-- ---- half a word from eight digits

-- The digits of eight characters, each at its character's place.
abbrev pub digits_from : ℕ → ℕ
digits_from n = bit_and n 1085102592571150095 + bit_and n 4629771061636907072 / 64 * 9

-- The bytes that they write, sixteen bits each.
abbrev pub bytes_from : ℕ → ℕ
bytes_from n = bit_and n 71777214294589695 * 16 + (n - bit_and n 71777214294589695) / 256

-- Bytes moved together: two by two, and all of them.
abbrev pub twos_from : ℕ → ℕ
twos_from n = bit_and n 1095216660735 + (n - bit_and n 1095216660735) / 256

abbrev pub half_from : ℕ → ℕ
half_from n = twos_from n % 4294967296 + twos_from n / 4294967296 * 65536

-- Two characters' places in their rows of 16, which of them are letters, and their digits.
module _ (a b : ℕ) (ha : hex_digit a < 16) (hb : hex_digit b < 16) where
  two-under : a + 256 * b < 65536
  two-under = omega (arith, digit-under a ha, digit-under b hb)

  two-places : bit_and (a + 256 * b) 3855 ≡ a % 16 + 256 * (b % 16)
  two-places =
      let turned : a + 256 * b ≡ b * 256 + a = omega arith in
      ap (λ (n : ℕ). bit_and n 3855) turned ∙ and_block 8 b 15 a 15 (omega (arith, digit-under a ha)) (omega arith)
      ∙ ap₂ (λ (x y : ℕ). x * 256 + y) (and_mask b 4) (and_mask a 4) ∙ omega arith

  two-letters : bit_and (a + 256 * b) 16448 ≡ 64 * (a / 64 + 256 * (b / 64))
  two-letters =
      let turned : a + 256 * b ≡ b * 256 + a = omega arith in
      ap (λ (n : ℕ). bit_and n 16448) turned ∙ and_block 8 b 64 a 64 (omega (arith, digit-under a ha)) (omega arith)
      ∙ ap₂ (λ (x y : ℕ). x * 256 + y) (and_high b 1 6) (and_high a 1 6) ∙ omega (arith, digit-under a ha, digit-under b hb)

  two_digits : a % 16 + 256 * (b % 16) + 9 * (a / 64 + 256 * (b / 64)) ≡ hex_digit a + 256 * hex_digit b
  two_digits = omega (arith, digit-place a ha, digit-place b hb)

-- What the letters add, to each two characters.
lanes-nine : (a b c d a' b' c' d' : ℕ) →
    lanes a b c d + lanes (64 * a') (64 * b') (64 * c') (64 * d') / 64 * 9 ≡ lanes (a + 9 * a') (b + 9 * b') (c + 9 * c') (d + 9 * d')
unfolding lanes
lanes-nine a b c d a' b' c' d' = omega arith

-- Two digits each make a byte each.
lanes_bytes : (a b c d a' b' c' d' high : ℕ) → high ≡ lanes a b c d →
    high * 16 + (lanes (a + 256 * a') (b + 256 * b') (c + 256 * c') (d + 256 * d') - high) / 256 ≡
    lanes (16 * a + a') (16 * b + b') (16 * c + c') (16 * d + d')
unfolding lanes
lanes_bytes a b c d a' b' c' d' high e = omega arith

-- The first of two digits.
first-digit : (x y : ℕ) → x < 16 → bit_and (x + 256 * y) 255 ≡ x
first-digit x y h = and_mask (x + 256 * y) 8 ∙ omega arith

-- The first and the third of four bytes.
even-bytes : (a b c d : ℕ) → a < 256 → b < 256 → c < 256 → bit_and (lanes a b c d) 1095216660735 ≡ a + c * 4294967296
unfolding lanes
even-bytes a b c d ha hb hc =
    let turned : lanes a b c d ≡ a + 65536 * b + (c + 65536 * d) * 4294967296 = omega arith in
    ap (λ (n : ℕ). bit_and n 1095216660735) turned ∙ low-twos (a + 65536 * b) (c + 65536 * d) (omega arith) ∙ omega arith

-- Four bytes moved together.
lanes-half : (a b c d even twos : ℕ) → a < 256 → b < 256 → even ≡ a + c * 4294967296 → twos ≡ even + (lanes a b c d - even) / 256 →
    twos % 4294967296 + twos / 4294967296 * 65536 ≡ a + 256 * b + 65536 * c + 16777216 * d
unfolding lanes
lanes-half a b c d even twos ha hb e f =
    let both : twos ≡ a + 256 * b + (c + 256 * d) * 4294967296 = omega arith in
    omega arith

-- Byte `k` of a text.
abbrev byte_at : List ℕ → ℕ → ℕ
byte_at text k = byte_of (get_or text (2 * k) 0) (get_or text (2 * k + 1) 0)

-- What its first four write.
four-value : (text : List ℕ) → byte_at text 0 + 256 * byte_at text 1 + 65536 * byte_at text 2 + 16777216 * byte_at text 3 ≡ word_of (bytes_in 4 text)
unfolding word_of bytes_in
four-value text =
    let third = in-next 1 text 2 ∙ ap (λ (l : List ℕ). byte_at text 2 ∷ l) (in-next 0 text 3) in
    let second = in-next 2 text 1 ∙ ap (λ (l : List ℕ). byte_at text 1 ∷ l) third in
    omega (arith, ap word_of (in-next 3 text 0 ∙ ap (λ (l : List ℕ). byte_at text 0 ∷ l) second))

module _ (text : List ℕ) (e : all_bytes (bytes_in 4 text) ≡ true) where
  -- The characters of byte `k`, and their digits.
  abbrev a : ℕ → ℕ
  a k = get_or text (2 * k) 0

  abbrev b : ℕ → ℕ
  b k = get_or text (2 * k + 1) 0

  abbrev x : ℕ → ℕ
  x k = hex_digit (a k)

  abbrev y : ℕ → ℕ
  y k = hex_digit (b k)

  -- What holds of them for each of four bytes.
  module _ (k : ℕ) (h : k < 4) where
    high : x k < 16
    high = (by_digits (a k) (b k) (text-byte 4 text k e h)).0

    low : y k < 16
    low = (by_digits (a k) (b k) (text-byte 4 text k e h)).1

    byte : 16 * x k + y k ≡ byte_at text k
    byte = sym (by_digits (a k) (b k) (text-byte 4 text k e h)).2

    byte-under : 16 * x k + y k < 256
    byte-under = omega (arith, high, low)

    digits-under : x k + 256 * y k < 65536
    digits-under = omega (arith, high, low)

    under : a k + 256 * b k < 65536
    under = two-under (a k) (b k) high low

    places : bit_and (a k + 256 * b k) 3855 ≡ a k % 16 + 256 * (b k % 16)
    places = two-places (a k) (b k) high low

    letters : bit_and (a k + 256 * b k) 16448 ≡ 64 * (a k / 64 + 256 * (b k / 64))
    letters = two-letters (a k) (b k) high low

    digits : a k % 16 + 256 * (b k % 16) + 9 * (a k / 64 + 256 * (b k / 64)) ≡ x k + 256 * y k
    digits = two_digits (a k) (b k) high low

    first : bit_and (x k + 256 * y k) 255 ≡ x k
    first = first-digit (x k) (y k) high

  k0 : 0 < 4
  k0 = omega arith

  k1 : 1 < 4
  k1 = omega arith

  k2 : 2 < 4
  k2 = omega arith

  k3 : 3 < 4
  k3 = omega arith

  -- The digits, the bytes, and the half word.
  digits-right : digits_from (eight_of text) ≡ lanes (x 0 + 256 * y 0) (x 1 + 256 * y 1) (x 2 + 256 * y 2) (x 3 + 256 * y 3)
  unfolding eight_of lanes
  digits-right =
      ap₂ (λ (m n : ℕ). m + n / 64 * 9)
      (and-lanes _ _ _ _ 3855 (under 0 k0) (under 1 k1) (under 2 k2) (omega arith) ∙ same-lanes (places 0 k0) (places 1 k1) (places 2 k2) (places 3 k3))
      (and-lanes _ _ _ _ 16448 (under 0 k0) (under 1 k1) (under 2 k2) (omega arith) ∙ same-lanes (letters 0 k0) (letters 1 k1) (letters 2 k2) (letters 3 k3))
      ∙ lanes-nine _ _ _ _ _ _ _ _ ∙ same-lanes (digits 0 k0) (digits 1 k1) (digits 2 k2) (digits 3 k3)

  bytes-right : bytes_from (lanes (x 0 + 256 * y 0) (x 1 + 256 * y 1) (x 2 + 256 * y 2) (x 3 + 256 * y 3)) ≡
      lanes (16 * x 0 + y 0) (16 * x 1 + y 1) (16 * x 2 + y 2) (16 * x 3 + y 3)
  unfolding lanes
  bytes-right =
      lanes_bytes (x 0) (x 1) (x 2) (x 3) (y 0) (y 1) (y 2) (y 3) _
      (and-lanes _ _ _ _ 255 (digits-under 0 k0) (digits-under 1 k1) (digits-under 2 k2) (omega arith)
      ∙ same-lanes (first 0 k0) (first 1 k1) (first 2 k2) (first 3 k3))

  pub half-right : half_from (bytes_from (digits_from (eight_of text))) ≡ word_of (bytes_in 4 text)
  half-right =
      let even = even-bytes _ _ _ (16 * x 3 + y 3) (byte-under 0 k0) (byte-under 1 k1) (byte-under 2 k2) in
      ap (λ (n : ℕ). half_from (bytes_from n)) digits-right ∙ ap half_from bytes-right
      ∙ lanes-half _ _ (16 * x 2 + y 2) (16 * x 3 + y 3) _ _ (byte-under 0 k0) (byte-under 1 k1) even refl
      ∙ omega (arith, byte 0 k0, byte 1 k1, byte 2 k2, byte 3 k3, four-value text)

-- ---- a word from its halves

-- Four bytes and others write what those write, and these above.
four-more : (n : ℕ) (text : List ℕ) →
    word_of (bytes_in (suc (suc (suc (suc n)))) text) ≡ word_of (bytes_in 4 text) + word_of (bytes_in n (drop 2 (drop 2 (drop 2 (drop 2 text))))) * 4294967296
unfolding word_of bytes_in
four-more n text = omega arith

-- Eight bytes.
pub halves-write : (text : List ℕ) → word_of (bytes_in 4 text) + word_of (bytes_in 4 (drop 8 text)) * 4294967296 ≡ word_of (bytes_in 8 text)
halves-write text =
    let past : drop 2 (drop 2 (drop 2 (drop 2 text))) ≡ drop 8 text = simp drop-drop in
    sym (four-more 4 text ∙ ap (λ (t : List ℕ). word_of (bytes_in 4 text) + word_of (bytes_in 4 t) * 4294967296) past)

-- Half a word has 32 bits.
pub half-under : (text : List ℕ) → all_bytes (bytes_in 4 text) ≡ true → word_of (bytes_in 4 text) < 4294967296
half-under text e = subst (λ (n : ℕ). word_of (bytes_in 4 text) < 256 ^ n) (in-length 4 text) (word_bound (bytes_in 4 text) e)

-- ---- words stored one after the other

-- Eight bytes and the others.
eight-more : (m : ℕ) (text : List ℕ) (row : List ℕ) (j : ℕ) → j < length row → get_or row j 0 < 2 ^ 64 →
    stored row (8 * j) (bytes_in (8 + m) text) ≡ stored (set row j (word_of (bytes_in 8 text))) (8 * (j + 1)) (bytes_in m (drop 16 text))
unfolding bytes_in
eight-more m text row j h w =
    let n : 8 + m ≡ suc (suc (suc (suc (suc (suc (suc (suc m))))))) = omega arith in
    let past : drop 2 (drop 2 (drop 2 (drop 2 (drop 2 (drop 2 (drop 2 (drop 2 text))))))) ≡ drop 16 text = simp drop-drop in
    ap (λ (n : ℕ). stored row (8 * j) (bytes_in n text)) n ∙ eight row j h _ _ _ _ _ _ _ _ (bytes_in m (drop 2 (drop 2 (drop 2 (drop 2 (drop 2 (drop 2 (drop 2 (drop 2 text))))))))) w
    ∙ ap (λ (t : List ℕ). stored (set row j (word_of (bytes_in 8 text))) (8 * (j + 1)) (bytes_in m t)) past

-- The first `i` words of a text are stored into a row.
pub record WordsFilled (n : ℕ) (text row : List ℕ) (from i : ℕ) (now : List ℕ) : Type 0 where
  pub within : i ≤ n
  pub size : length now ≡ length row
  pub same : (j : ℕ) → from + i ≤ j → get_or now j 0 ≡ get_or row j 0
  pub rest : stored now (8 * (from + i)) (bytes_in (8 * (n - i)) (drop (16 * i) text)) ≡ stored row (8 * from) (bytes_in (8 * n) text)

-- None of them yet.
pub words-begin : (n : ℕ) (text row : List ℕ) (from : ℕ) → WordsFilled n text row from 0 row
words-begin n text row from =
    let m : n - 0 ≡ n = omega arith in
    let f : from + 0 ≡ from = omega arith in
    record { within = omega arith; size = refl; same = λ j h. refl; rest = (λ i. stored row (8 * f i) (bytes_in (8 * m i) text)) }

-- One more.
pub words_more : {n : ℕ} {text row : List ℕ} {from i word : ℕ} {now : List ℕ} → WordsFilled n text row from i now → i < n → from + n ≤ length row →
    get_or row (from + i) 0 < 2 ^ 64 → word ≡ word_of (bytes_in 8 (drop (16 * i) text)) → WordsFilled n text row from (i + 1) (set now (from + i) word)
words_more {n} {text} {row} {from} {i} {word} {now} f h g w e =
    let t = drop (16 * i) text in
    let a : from + (i + 1) ≡ from + i + 1 = omega arith in
    let m : 8 + 8 * (n - (i + 1)) ≡ 8 * (n - i) = omega arith in
    let past : drop 16 t ≡ drop (16 * (i + 1)) text = let p : 16 * i + 16 ≡ 16 * (i + 1) = omega arith in drop-drop 16 (16 * i) text ∙ ap (λ (k : ℕ). drop k text) p in
    record {
      within = omega arith;
      size = length-set now (from + i) word ∙ f.size;
      same = λ j k. get_or-set_other now (from + i) j word 0 (λ z. absurd (omega arith)) ∙ f.same j (omega arith);
      rest = (λ k. stored (set now (from + i) (e k)) (8 * a k) (bytes_in (8 * (n - (i + 1))) (sym past k)))
          ∙ sym (eight-more (8 * (n - (i + 1))) t now (from + i) (omega (arith, f.size)) (omega (arith, w, f.same (from + i) (omega arith))))
          ∙ ap (λ (k : ℕ). stored now (8 * (from + i)) (bytes_in k t)) m ∙ f.rest;
    }

-- All of them.
pub words-end : {n : ℕ} {text row : List ℕ} {from i : ℕ} {now : List ℕ} → WordsFilled n text row from i now → n ≤ i → now ≡ stored row (8 * from) (bytes_in (8 * n) text)
unfolding stored bytes_in
words-end {n} {text} {row} {from} {i} {now} f h =
    let m : 8 * (n - i) ≡ 0 = omega arith in
    sym (ap (λ (m : ℕ). stored now (8 * (from + i)) (bytes_in m (drop (16 * i) text))) m) ∙ f.rest
