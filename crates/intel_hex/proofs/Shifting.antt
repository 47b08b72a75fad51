-- Eight bytes shifted into a word leave nothing of it, and so a row filled with bytes has their words.
use Prim.Native.Nat.{ℕ, zero, suc, ◌+◌, ◌*◌, ◌/◌, ◌^◌, ◌≤◌, ◌<◌}
use mathlib.Core.Path.{◌≡◌, sym, ap, subst, ◌∙◌}
use mathlib.Core.List.{List, [], ◌∷◌, ◌++◌, append-nil}
use native.Mathlib.Omega.{arith}
use native.Mathlib.Numerals.{add-one}
use lib.ListN.{length, get_or, take, set, length-set}
use lib.Seq.{set-set, set-get_or, get_or-set_same, get_or-set_other, take-suc-set, take_all, append_snoc}
use Rattle.board.specs.Hex.{word_of, words_of}
use Rattle.intel_hex.specs.Storing.{shifted_in, stored}

-- One byte: what was there moves down by a byte.
shift : (w x q b : ℕ) → w ≡ 256 * x + q → shifted_in w b ≡ x + b * 72057594037927936 + q / 256
shift w x q b e = omega arith

-- One byte that others follow.
step : (w x q b y : ℕ) → w ≡ 256 * x + q → x + b * 72057594037927936 ≡ 256 * y → shifted_in w b ≡ 256 * y + q / 256
step w x q b y e f = omega (arith, shift w x q b e)

-- A word has eight bytes.
gone : (w : ℕ) → w < 2 ^ 64 → w / 256 / 256 / 256 / 256 / 256 / 256 / 256 / 256 ≡ 0
gone w h =
    let a : w / 256 < 2 ^ 56 = omega arith in
    let b : w / 256 / 256 < 2 ^ 48 = omega arith in
    let c : w / 256 / 256 / 256 < 2 ^ 40 = omega arith in
    let d : w / 256 / 256 / 256 / 256 < 2 ^ 32 = omega arith in
    let e : w / 256 / 256 / 256 / 256 / 256 < 2 ^ 24 = omega arith in
    let f : w / 256 / 256 / 256 / 256 / 256 / 256 < 2 ^ 16 = omega arith in
    let g : w / 256 / 256 / 256 / 256 / 256 / 256 / 256 < 2 ^ 8 = omega arith in
    omega arith

-- Eight bytes: the number that they write is there.
shifts : (w a b c d e f g h : ℕ) → w < 2 ^ 64 →
    shifted_in (shifted_in (shifted_in (shifted_in (shifted_in (shifted_in (shifted_in (shifted_in w a) b) c) d) e) f) g) h ≡
    a + 256 * (b + 256 * (c + 256 * (d + 256 * (e + 256 * (f + 256 * (g + 256 * (h + 256 * 0)))))))
shifts w a b c d e f g h bound =
    let s1 = step (w) (0) (w) a (a * 281474976710656) (omega arith) (omega arith) in
    let s2 = step (shifted_in w a) (a * 281474976710656) (w / 256) b (a * 1099511627776 + b * 281474976710656) s1 (omega arith) in
    let s3 = step (shifted_in (shifted_in w a) b) (a * 1099511627776 + b * 281474976710656) (w / 256 / 256) c (a * 4294967296 + b * 1099511627776 + c * 281474976710656) s2 (omega arith) in
    let s4 = step (shifted_in (shifted_in (shifted_in w a) b) c) (a * 4294967296 + b * 1099511627776 + c * 281474976710656) (w / 256 / 256 / 256) d (a * 16777216 + b * 4294967296 + c * 1099511627776 + d * 281474976710656) s3 (omega arith) in
    let s5 = step (shifted_in (shifted_in (shifted_in (shifted_in w a) b) c) d) (a * 16777216 + b * 4294967296 + c * 1099511627776 + d * 281474976710656) (w / 256 / 256 / 256 / 256) e (a * 65536 + b * 16777216 + c * 4294967296 + d * 1099511627776 + e * 281474976710656) s4 (omega arith) in
    let s6 = step (shifted_in (shifted_in (shifted_in (shifted_in (shifted_in w a) b) c) d) e) (a * 65536 + b * 16777216 + c * 4294967296 + d * 1099511627776 + e * 281474976710656) (w / 256 / 256 / 256 / 256 / 256) f (a * 256 + b * 65536 + c * 16777216 + d * 4294967296 + e * 1099511627776 + f * 281474976710656) s5 (omega arith) in
    let s7 = step (shifted_in (shifted_in (shifted_in (shifted_in (shifted_in (shifted_in w a) b) c) d) e) f) (a * 256 + b * 65536 + c * 16777216 + d * 4294967296 + e * 1099511627776 + f * 281474976710656) (w / 256 / 256 / 256 / 256 / 256 / 256) g (a * 1 + b * 256 + c * 65536 + d * 16777216 + e * 4294967296 + f * 1099511627776 + g * 281474976710656) s6 (omega arith) in
    omega (arith, shift (shifted_in (shifted_in (shifted_in (shifted_in (shifted_in (shifted_in (shifted_in w a) b) c) d) e) f) g) (a * 1 + b * 256 + c * 65536 + d * 16777216 + e * 4294967296 + f * 1099511627776 + g * 281474976710656) (w / 256 / 256 / 256 / 256 / 256 / 256 / 256) h s7, gone w bound)

-- ---- bytes stored at a word's place

module _ (row : List ℕ) (j : ℕ) (inside : j < length row) where
  -- The next byte of word `j`, of which `v` is there.
  next : (v k b : ℕ) (bytes : List ℕ) → k < 8 → stored (set row j v) (8 * j + k) (b ∷ bytes) ≡ stored (set row j (shifted_in v b)) (8 * j + (k + 1)) bytes
  unfolding stored
  next v k b bytes h =
      let here : (8 * j + k) / 8 ≡ j = omega arith in
      let on : 8 * j + k + 1 ≡ 8 * j + (k + 1) = omega arith in
      (λ i. stored (set (set row j v) (here i) (shifted_in (get_or (set row j v) (here i) 0) b)) (on i) bytes)
      ∙ ap (λ (x : ℕ). stored (set (set row j v) j (shifted_in x b)) (8 * j + (k + 1)) bytes) (get_or-set_same row j v 0 inside)
      ∙ ap (λ (r : List ℕ). stored r (8 * j + (k + 1)) bytes) (set-set row j v (shifted_in v b))

  -- All eight bytes.
  pub eight : (a b c d e f g h : ℕ) (bytes : List ℕ) → get_or row j 0 < 2 ^ 64 →
      stored row (8 * j) (a ∷ b ∷ c ∷ d ∷ e ∷ f ∷ g ∷ h ∷ bytes) ≡ stored (set row j (word_of (a ∷ b ∷ c ∷ d ∷ e ∷ f ∷ g ∷ h ∷ []))) (8 * (j + 1)) bytes
  unfolding word_of
  eight a b c d e f g h bytes bound =
      let w = get_or row j 0 in
      let begin : 8 * j ≡ 8 * j + 0 = omega arith in
      let end : 8 * j + 8 ≡ 8 * (j + 1) = omega arith in
      (λ i. stored (sym (set-get_or row j 0) i) (begin i) (a ∷ b ∷ c ∷ d ∷ e ∷ f ∷ g ∷ h ∷ bytes))
      ∙ next w 0 a (b ∷ c ∷ d ∷ e ∷ f ∷ g ∷ h ∷ bytes) (omega arith)
      ∙ next _ 1 b (c ∷ d ∷ e ∷ f ∷ g ∷ h ∷ bytes) (omega arith)
      ∙ next _ 2 c (d ∷ e ∷ f ∷ g ∷ h ∷ bytes) (omega arith)
      ∙ next _ 3 d (e ∷ f ∷ g ∷ h ∷ bytes) (omega arith)
      ∙ next _ 4 e (f ∷ g ∷ h ∷ bytes) (omega arith)
      ∙ next _ 5 f (g ∷ h ∷ bytes) (omega arith)
      ∙ next _ 6 g (h ∷ bytes) (omega arith)
      ∙ next _ 7 h bytes (omega arith)
      ∙ (λ i. stored (set row j (shifts w a b c d e f g h bound i)) (end i) bytes)

-- ---- a row filled

-- Bytes for the words from `j` on, stored there, are these words.
pub words-stored : (n : ℕ) (row : List ℕ) (j : ℕ) (bytes : List ℕ) → j + n ≡ length row → length bytes ≡ 8 * n → ((i : ℕ) → j ≤ i → get_or row i 0 < 2 ^ 64) →
    stored row (8 * j) bytes ≡ take j row ++ words_of n bytes
unfolding stored words_of
words-stored zero row j [] sum size w = sym (append-nil (take j row) ∙ take_all j row (omega arith))
words-stored zero row j (a ∷ bytes) sum size w = absurd (omega arith)
words-stored (suc n) row j [] sum size w = absurd (omega arith)
words-stored (suc n) row j (a ∷ []) sum size w = absurd (omega arith)
words-stored (suc n) row j (a ∷ b ∷ []) sum size w = absurd (omega arith)
words-stored (suc n) row j (a ∷ b ∷ c ∷ []) sum size w = absurd (omega arith)
words-stored (suc n) row j (a ∷ b ∷ c ∷ d ∷ []) sum size w = absurd (omega arith)
words-stored (suc n) row j (a ∷ b ∷ c ∷ d ∷ e ∷ []) sum size w = absurd (omega arith)
words-stored (suc n) row j (a ∷ b ∷ c ∷ d ∷ e ∷ f ∷ []) sum size w = absurd (omega arith)
words-stored (suc n) row j (a ∷ b ∷ c ∷ d ∷ e ∷ f ∷ g ∷ []) sum size w = absurd (omega arith)
words-stored (suc n) row j (a ∷ b ∷ c ∷ d ∷ e ∷ f ∷ g ∷ h ∷ bytes) sum size w =
    let v = word_of (a ∷ b ∷ c ∷ d ∷ e ∷ f ∷ g ∷ h ∷ []) in
    let r = set row j v in
    eight row j (omega arith) a b c d e f g h bytes (w j (omega arith))
    ∙ words-stored n r (j + 1) bytes (omega (arith, length-set row j v)) (omega arith) (λ i k.
    subst (λ (x : ℕ). x < 2 ^ 64) (sym (get_or-set_other row j i v 0 (λ z. absurd (omega arith)))) (w i (omega arith)))
    ∙ ap (λ (k : ℕ). take k r ++ words_of n bytes) (add-one j)
    ∙ ap (λ (t : List ℕ). t ++ words_of n bytes) (take-suc-set row j v (omega arith))
    ∙ append_snoc (take j row) v (words_of n bytes)
