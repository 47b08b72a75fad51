-- Laws of four numbers in one word, sixteen bits each: a half word's bytes, their characters and their sum.
use Prim.Native.Nat.{ℕ, suc, ◌+◌, ◌*◌, ◌-◌, ◌/◌, ◌%◌, ◌≤◌, ◌<◌}
use mathlib.Core.Path.{◌≡◌, refl, sym, ap, ap₂, ◌∙◌}
use mathlib.Core.List.{List, [], ◌∷◌, ◌++◌}
use native.Mathlib.Omega.{arith}
use lib.Dec.{ltb}
use lib.Bits.{bit_and, and_block, and_mask, and_high}
use borrow.Author.Tests.{ltb-true, ltb-false}
use Rattle.predicate.proofs.Bools.{split, chosen, passed_over}
use Rattle.board.specs.Hex.{hex_character, bytes_text, sum_of, low_bytes}
use Rattle.intel_hex.proofs.Written.{sum-append}
use Rattle.intel_hex.specs.Lanes.{lanes, spaced, pair_of, Paired}

-- ---- masks

-- Four numbers, equal by equal ones.
pub same-lanes : {a b c d a' b' c' d' : ℕ} → a ≡ a' → b ≡ b' → c ≡ c' → d ≡ d' → lanes a b c d ≡ lanes a' b' c' d'
same-lanes p q r s = λ i. lanes (p i) (q i) (r i) (s i)

-- Each is masked by itself.
pub and-lanes : (a b c d m : ℕ) → a < 65536 → b < 65536 → c < 65536 → m < 65536 →
    bit_and (lanes a b c d) (lanes m m m m) ≡ lanes (bit_and a m) (bit_and b m) (bit_and c m) (bit_and d m)
unfolding lanes
and-lanes a b c d m ha hb hc hm =
    let nested : ℕ → ℕ → ℕ → ℕ → ℕ = (λ p q r s. ((s * 65536 + r) * 65536 + q) * 65536 + p) in
    let flat : (p q r s : ℕ) → lanes p q r s ≡ nested p q r s = (λ p q r s. omega arith) in
    ap₂ bit_and (flat a b c d) (flat m m m m)
    ∙ and_block 16 ((d * 65536 + c) * 65536 + b) ((m * 65536 + m) * 65536 + m) a m ha hm
    ∙ ap (λ (x : ℕ). x * 65536 + bit_and a m)
    (and_block 16 (d * 65536 + c) (m * 65536 + m) b m hb hm ∙ ap (λ (x : ℕ). x * 65536 + bit_and b m) (and_block 16 d m c m hc hm))
    ∙ sym (flat (bit_and a m) (bit_and b m) (bit_and c m) (bit_and d m))

-- ---- a half word's bytes

-- What stands in its low byte, of each of two numbers of 32 bits.
pub low-twos : (p q : ℕ) → p < 4294967296 → bit_and (p + q * 4294967296) 1095216660735 ≡ p % 256 + q % 256 * 4294967296
low-twos p q h =
    let turned : p + q * 4294967296 ≡ q * 4294967296 + p = omega arith in
    ap (λ (n : ℕ). bit_and n 1095216660735) turned
    ∙ and_block 32 q 255 p 255 h (omega arith)
    ∙ ap₂ (λ (x y : ℕ). x * 4294967296 + y) (and_mask q 8) (and_mask p 8)
    ∙ omega arith

-- Sixteen bits are two bytes.
two_bytes : (n : ℕ) → n % 65536 ≡ n % 256 + 256 * (n / 256 % 256)
two_bytes n = omega arith

-- A byte of sixteen bits is one of the number.
first_byte : (n : ℕ) → n % 65536 % 256 ≡ n % 256
first_byte n = omega arith

-- The high half has two bytes too.
high-bytes : (n : ℕ) → n < 4294967296 → n / 65536 ≡ n / 65536 % 256 + 256 * (n / 16777216 % 256)
high-bytes n h = omega arith

-- Two numbers of two bytes each are moved apart.
apart : (p q a b c d low : ℕ) → p ≡ a + 256 * b → q ≡ c + 256 * d → low ≡ a + c * 4294967296 →
    low + (p + q * 4294967296 - low) * 256 ≡ lanes a b c d
unfolding lanes
apart p q a b c d low e f g = omega arith

-- The bytes spread.
pub spread-bytes : (half low : ℕ) → half < 4294967296 → low ≡ bit_and (half % 65536 + half / 65536 * 4294967296) 1095216660735 →
    low + (half % 65536 + half / 65536 * 4294967296 - low) * 256 ≡ spaced half
unfolding spaced
spread-bytes half low h e =
    let under : half % 65536 < 4294967296 = omega arith in
    apart (half % 65536) (half / 65536) (half % 256) (half / 256 % 256) (half / 65536 % 256) (half / 16777216 % 256) low
    (two_bytes half)
    (high-bytes half h)
    (e ∙ low-twos (half % 65536) (half / 65536) under ∙ ap (λ (x : ℕ). x + half / 65536 % 256 * 4294967296) (first_byte half))

-- They are what is spread.
pub four_bytes : (half : ℕ) → low_bytes 4 half ≡ half % 256 ∷ half / 256 % 256 ∷ half / 65536 % 256 ∷ half / 16777216 % 256 ∷ []
unfolding low_bytes
four_bytes half =
    let two : half / 256 / 256 ≡ half / 65536 = omega arith in
    let three : half / 256 / 256 / 256 ≡ half / 16777216 = omega arith in
    λ i. half % 256 ∷ half / 256 % 256 ∷ two i % 256 ∷ three i % 256 ∷ []

-- The lowest byte of a number with a multiple of 256 added, and those above.
byte-off : (n x z k : ℕ) → k ≡ 256 * z → low_bytes (suc n) (x + k) ≡ x % 256 ∷ low_bytes n (x / 256 + z)
unfolding low_bytes
byte-off n x z k e =
    let low : (x + k) % 256 ≡ x % 256 = omega arith in
    let high : (x + k) / 256 ≡ x / 256 + z = omega arith in
    λ i. low i ∷ low_bytes n (high i)

-- Those of a half word and a number above it.
two-halves : (x y : ℕ) → x < 4294967296 → low_bytes 8 (x + 4294967296 * y) ≡ low_bytes 4 x ++ low_bytes 4 y
unfolding low_bytes
two-halves x y h =
    let none : x / 256 / 256 / 256 / 256 + y ≡ y = omega arith in
    let fourth = byte-off 4 (x / 256 / 256 / 256) y (256 * y) refl ∙ ap (λ (k : ℕ). x / 256 / 256 / 256 % 256 ∷ low_bytes 4 k) none in
    let third = byte-off 5 (x / 256 / 256) (256 * y) (65536 * y) (omega arith) ∙ ap (λ (l : List ℕ). x / 256 / 256 % 256 ∷ l) fourth in
    let second = byte-off 6 (x / 256) (65536 * y) (16777216 * y) (omega arith) ∙ ap (λ (l : List ℕ). x / 256 % 256 ∷ l) third in
    byte-off 7 x (16777216 * y) (4294967296 * y) (omega arith) ∙ ap (λ (l : List ℕ). x % 256 ∷ l) second

-- A word has those of its two halves.
pub eight-bytes : (w : ℕ) → low_bytes 8 w ≡ low_bytes 4 (w % 4294967296) ++ low_bytes 4 (w / 4294967296)
eight-bytes w =
    let parts : w ≡ w % 4294967296 + 4294967296 * (w / 4294967296) = omega arith in
    ap (low_bytes 8) parts ∙ two-halves (w % 4294967296) (w / 4294967296) (omega arith)

-- ---- their characters

-- A byte's two digits, the high one first, and which of them are letters.
digits : ℕ → ℕ
digits b = b / 16 + 256 * (b % 16)

letters : ℕ → ℕ
letters b = (b / 16 + 6) / 16 + 256 * ((b % 16 + 6) / 16)

-- The character of a digit, from that.
character-of : (d : ℕ) → d < 16 → hex_character d ≡ d + 48 + 7 * ((d + 6) / 16)
character-of d h =
    split (ltb d 10)
    (λ t. chosen (ltb d 10) (48 + d) (65 + (d - 10)) t ∙ omega (arith, ltb-true d 10 t))
    (λ t. passed_over (ltb d 10) (48 + d) (65 + (d - 10)) t ∙ omega (arith, ltb-false d 10 t))

-- Both of a byte.
pair-of : (b : ℕ) → b < 256 → pair_of b ≡ digits b + 12336 + 7 * letters b
unfolding pair_of digits letters
pair-of b h =
    let high : b / 16 < 16 = omega arith in
    let low : b % 16 < 16 = omega arith in
    ap₂ (λ (x y : ℕ). x + 256 * y) (character-of (b / 16) high) (character-of (b % 16) low) ∙ omega arith

-- The digits of bytes from their low ones.
digits-lanes : (a b c d low : ℕ) → low ≡ lanes (a % 16) (b % 16) (c % 16) (d % 16) →
    (lanes a b c d - low) / 16 + low * 256 ≡ lanes (digits a) (digits b) (digits c) (digits d)
unfolding lanes digits
digits-lanes a b c d low e = omega arith

-- A digit over 9 has bit 4 once 6 is added.
letter-bits : (b : ℕ) → b < 256 → bit_and (digits b + 1542) 4112 ≡ 16 * letters b
unfolding digits letters
letter-bits b h =
    let turned : b / 16 + 256 * (b % 16) + 1542 ≡ (b % 16 + 6) * 256 + (b / 16 + 6) = omega arith in
    ap (λ (n : ℕ). bit_and n 4112) turned
    ∙ and_block 8 (b % 16 + 6) 16 (b / 16 + 6) 16 (omega arith) (omega arith)
    ∙ ap₂ (λ (x y : ℕ). x * 256 + y) (and_high (b % 16 + 6) 1 4) (and_high (b / 16 + 6) 1 4)
    ∙ omega arith

-- Digits are below 16.
digits-under : (b : ℕ) → b < 256 → digits b + 1542 < 65536
unfolding digits
digits-under b h = omega arith

-- What the letters add, to each character.
lanes-add : (a b c d a' b' c' d' : ℕ) →
    lanes a b c d + 3472328296227680304 + lanes (16 * a') (16 * b') (16 * c') (16 * d') / 16 * 7 ≡
    lanes (a + 12336 + 7 * a') (b + 12336 + 7 * b') (c + 12336 + 7 * c') (d + 12336 + 7 * d')
unfolding lanes
lanes-add a b c d a' b' c' d' = omega arith

-- And 6 for each digit.
lanes-six : (a b c d : ℕ) → lanes a b c d + 434041037028460038 ≡ lanes (a + 1542) (b + 1542) (c + 1542) (d + 1542)
unfolding lanes
lanes-six a b c d = omega arith

-- A word's digits, and the characters that are made of them.
abbrev pub apart_from : ℕ → ℕ
apart_from n = (n - bit_and n 4222189076152335) / 16 + bit_and n 4222189076152335 * 256

abbrev pub paired : ℕ → ℕ
paired n = apart_from n + 3472328296227680304 + bit_and (apart_from n + 434041037028460038) 1157442765409226768 / 16 * 7

-- The characters of bytes, by two masks.
module _ (a b c d : ℕ) (ha : a < 256) (hb : b < 256) (hc : c < 256) (hd : d < 256) where
  low-digits : bit_and (lanes a b c d) 4222189076152335 ≡ lanes (a % 16) (b % 16) (c % 16) (d % 16)
  unfolding lanes
  low-digits =
      and-lanes a b c d 15 (omega arith) (omega arith) (omega arith) (omega arith)
      ∙ same-lanes (and_mask a 4) (and_mask b 4) (and_mask c 4) (and_mask d 4)

  high-letters : bit_and (lanes (digits a) (digits b) (digits c) (digits d) + 434041037028460038) 1157442765409226768 ≡
      lanes (16 * letters a) (16 * letters b) (16 * letters c) (16 * letters d)
  unfolding lanes
  high-letters =
      ap (λ (n : ℕ). bit_and n 1157442765409226768) (lanes-six (digits a) (digits b) (digits c) (digits d))
      ∙ and-lanes (digits a + 1542) (digits b + 1542) (digits c + 1542) (digits d + 1542) 4112
      (digits-under a ha) (digits-under b hb) (digits-under c hc) (omega arith)
      ∙ same-lanes (letter-bits a ha) (letter-bits b hb) (letter-bits c hc) (letter-bits d hd)

  pub paired-lanes : paired (lanes a b c d) ≡ lanes (pair_of a) (pair_of b) (pair_of c) (pair_of d)
  paired-lanes =
      let ds = digits-lanes a b c d _ low-digits in
      let ls = ap (λ (n : ℕ). bit_and (n + 434041037028460038) 1157442765409226768) ds ∙ high-letters in
      ap₂ (λ (x y : ℕ). x + 3472328296227680304 + y / 16 * 7) ds ls
      ∙ lanes-add (digits a) (digits b) (digits c) (digits d) (letters a) (letters b) (letters c) (letters d)
      ∙ same-lanes (sym (pair-of a ha)) (sym (pair-of b hb)) (sym (pair-of c hc)) (sym (pair-of d hd))

-- ---- their text

-- The two low bytes of a number that has two bytes below others.
two-low : (n p q : ℕ) → p < 256 → q < 256 → n % 65536 ≡ p + 256 * q → low_bytes 2 n ≡ p ∷ q ∷ []
unfolding low_bytes
two-low n p q hp hq e =
    let low : n % 256 ≡ p = omega arith in
    let high : n / 256 % 256 ≡ q = omega (arith, two_bytes n) in
    λ i. low i ∷ high i ∷ []

-- A character is a byte.
character-under : (d : ℕ) → d < 16 → hex_character d < 256
character-under d h = let e = character-of d h in omega arith

-- A byte's characters, where they stand below others.
pair-text : (n b : ℕ) → b < 256 → n % 65536 ≡ pair_of b → low_bytes 2 n ≡ bytes_text (b ∷ [])
unfolding pair_of bytes_text
pair-text n b h e =
    two-low n (hex_character (b / 16)) (hex_character (b % 16)) (character-under (b / 16) (omega arith)) (character-under (b % 16) (omega arith)) e

-- Two characters have sixteen bits.
pair_under : (b : ℕ) → b < 256 → pair_of b < 65536
unfolding pair_of
pair_under b h =
    let high = character-under (b / 16) (omega arith) in
    let low = character-under (b % 16) (omega arith) in
    omega arith

-- Each of four numbers taken out.
lanes-out : (a b c d n : ℕ) → a < 65536 → b < 65536 → c < 65536 → d < 65536 → n ≡ lanes a b c d →
    (n % 65536 ≡ a) × (n / 65536 % 65536 ≡ b) × (n / 4294967296 % 65536 ≡ c) × (n / 281474976710656 % 65536 ≡ d)
unfolding lanes
lanes-out a b c d n ha hb hc hd e = (omega arith, omega arith, omega arith, omega arith)

-- The characters of a single byte.
pub byte-text : (byte pairs : ℕ) → byte < 256 → Paired byte pairs → low_bytes 2 pairs ≡ bytes_text (byte ∷ [])
unfolding lanes
byte-text byte pairs h p =
    let none : 0 < 256 = omega arith in
    let few = pair_under 0 none in
    let out = lanes-out _ _ _ _ pairs (pair_under byte h) few few few (p.each byte 0 0 0 h none none none (omega arith)) in
    pair-text pairs byte h out.0

-- The characters of a half word's bytes, two by two.
pub half-text : (half pairs : ℕ) → Paired (spaced half) pairs →
    ((low_bytes 2 pairs ++ low_bytes 2 (pairs / 65536)) ++ low_bytes 2 (pairs / 4294967296)) ++ low_bytes 2 (pairs / 281474976710656) ≡ bytes_text (low_bytes 4 half)
unfolding spaced bytes_text
half-text half pairs p =
    let a = half % 256 in
    let b = half / 256 % 256 in
    let c = half / 65536 % 256 in
    let d = half / 16777216 % 256 in
    let ha : a < 256 = omega arith in
    let hb : b < 256 = omega arith in
    let hc : c < 256 = omega arith in
    let hd : d < 256 = omega arith in
    let out = lanes-out _ _ _ _ pairs (pair_under a ha) (pair_under b hb) (pair_under c hc) (pair_under d hd) (p.each a b c d ha hb hc hd refl) in
    let one = pair-text pairs a ha out.0 in
    let two = pair-text (pairs / 65536) b hb out.1 in
    let three = pair-text (pairs / 4294967296) c hc out.2 in
    let four = pair-text (pairs / 281474976710656) d hd out.3 in
    (λ i. ((one i ++ two i) ++ three i) ++ four i) ∙ ap bytes_text (sym (four_bytes half))

-- ---- their sum

-- No more than 255 each.
pub spaced-under : (half : ℕ) → spaced half ≤ 71777214294589695
unfolding spaced lanes
spaced-under half =
    let a : half % 256 ≤ 255 = omega arith in
    let b : half / 256 % 256 ≤ 255 = omega arith in
    let c : half / 65536 % 256 ≤ 255 = omega arith in
    let d : half / 16777216 % 256 ≤ 255 = omega arith in
    omega arith

-- Two numbers added, the first of sixteen bits.
two-added : (x y f : ℕ) → x < 65536 → f ≡ x + 65536 * y → f % 65536 + f / 65536 ≡ x + y
two-added x y f h e = omega arith

-- Four numbers added by halves.
four-added : (a b c d s f : ℕ) → a < 512 → b < 512 → c < 512 → d < 512 → s ≡ lanes a b c d → f ≡ s % 4294967296 + s / 4294967296 →
    f % 65536 + f / 65536 ≡ a + b + c + d
unfolding lanes
four-added a b c d s f ha hb hc hd e g =
    let low : s % 4294967296 ≡ a + 65536 * b = omega arith in
    let high : s / 4294967296 ≡ c + 65536 * d = omega arith in
    let both : f ≡ (a + c) + 65536 * (b + d) = omega arith in
    two-added (a + c) (b + d) f (omega arith) both ∙ omega arith

-- Four numbers and four.
lanes-plus : (a b c d a' b' c' d' : ℕ) → lanes a b c d + lanes a' b' c' d' ≡ lanes (a + a') (b + b') (c + c') (d + d')
unfolding lanes
lanes-plus a b c d a' b' c' d' = omega arith

-- The sum of a half word's bytes.
half-sum : (half : ℕ) → sum_of (low_bytes 4 half) ≡ half % 256 + half / 256 % 256 + half / 65536 % 256 + half / 16777216 % 256
unfolding sum_of
half-sum half = ap sum_of (four_bytes half) ∙ omega arith

-- Bytes are below 256, and two of them below 512.
two-under : (m n : ℕ) → m % 256 + n % 256 < 512
two-under m n = omega arith

-- Four sums of two are two sums of four.
regrouped : (a b c d a' b' c' d' : ℕ) → a + a' + (b + b') + (c + c') + (d + d') ≡ a + b + c + d + (a' + b' + c' + d')
regrouped a b c d a' b' c' d' = omega arith

-- The sum of a word's bytes.
pub word_sum : (w s f : ℕ) → s ≡ spaced (w % 4294967296) + spaced (w / 4294967296) → f ≡ s % 4294967296 + s / 4294967296 →
    f % 65536 + f / 65536 ≡ sum_of (low_bytes 8 w)
unfolding spaced
word_sum w s f e g =
    let h = w % 4294967296 in
    let k = w / 4294967296 in
    four-added _ _ _ _ s f (two-under h k) (two-under (h / 256) (k / 256)) (two-under (h / 65536) (k / 65536)) (two-under (h / 16777216) (k / 16777216))
    (e ∙ lanes-plus _ _ _ _ _ _ _ _) g
    ∙ regrouped _ _ _ _ _ _ _ _
    ∙ sym (ap sum_of (eight-bytes w) ∙ sum-append (low_bytes 4 h) (low_bytes 4 k) ∙ ap₂ ◌+◌ (half-sum h) (half-sum k))
