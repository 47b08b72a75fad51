-- Laws of digits: which texts spell which bytes, and that upper-case ones spell them in one way.
use Prim.Native.Nat.{ℕ, zero, suc, ◌+◌, ◌*◌, ◌/◌, ◌%◌, ◌≤◌, ◌<◌}
use mathlib.Core.Path.{◌≡◌, refl, sym, ap, ap₂, subst, ◌∙◌}
use mathlib.Core.List.{List, [], ◌∷◌, ◌++◌}
use mathlib.Core.Bool.{true, not, ◌&&◌}
use native.Mathlib.Omega.{arith}
use lib.Dec.{leb, ltb, eqb}
use lib.ListN.{length, take}
use borrow.Author.Tests.{ltb-true, ltb-false, eqb-true, lt-ltb, lt-leb}
use Rattle.predicate.specs.Passing.{any_under}
use Rattle.predicate.proofs.Bools.{split, and_both, and-not, and-off-right, not-off}
use Rattle.predicate.proofs.Passing.{none-under}
use Rattle.text.specs.Ascii.{'0', '9', 'A', 'F', 'a', 'f', 'z'}
use Rattle.board.specs.Hex.{hex_character, bytes_text, hex_digit, byte_of, bytes_in, all_bytes}
use Rattle.intel_hex.specs.Statements.{Spells, none, byte, NoLower}
use Rattle.intel_hex.proofs.Digits.{no_digit, digits-write, by_digits}
use Rattle.intel_hex.proofs.Words.{bytes-first, bytes_rest, bytes-more}

-- ---- digits

-- A digit's character stands for it.
digit-of : (d : ℕ) → d < 16 → hex_digit (hex_character d) ≡ d
unfolding any_under
digit-of d h = eqb-true _ d (not-off _ (none-under 16 (λ k. not (eqb (hex_digit (hex_character k)) k)) refl d h))

-- A digit's character is no lower-case letter.
character-upper : (d : ℕ) → d < 16 → hex_character d < 'a'
unfolding any_under
character-upper d h = ltb-true _ 'a' (not-off _ (none-under 16 (λ k. not (ltb (hex_character k) 'a')) refl d h))

-- A character past the letters stands for no digit.
past-letters : (c : ℕ) → 'z' < c → hex_digit c ≡ 16
past-letters c h =
    no_digit c
    (and-off-right (leb '0' c) (leb c '9') (lt-leb c '9' (omega arith)))
    (and-off-right (leb 'A' c) (leb c 'F') (lt-leb c 'F' (omega arith)))
    (and-off-right (leb 'a' c) (leb c 'f') (lt-leb c 'f' (omega arith)))

-- A character that stands for a digit and is no lower-case letter is the digit's.
character-of : (c : ℕ) → hex_digit c < 16 → ('a' ≤ c → c ≤ 'z' → ⊥) → hex_character (hex_digit c) ≡ c
unfolding any_under
character-of c h upper =
    split (ltb c 'a')
    (λ t. eqb-true _ c
    (not-off _
    (and-not _ _
    (none-under 'a' (λ k. ltb (hex_digit k) 16 && not (eqb (hex_character (hex_digit k)) k)) refl c (ltb-true c 'a' t))
    (lt-ltb (hex_digit c) 16 h))))
    (λ t. split (ltb 'z' c)
    (λ u. absurd (omega (arith, past-letters c (ltb-true 'z' c u))))
    (λ u. absurd (upper (ltb-false c 'a' t) (ltb-false 'z' c u))))

-- ---- texts that spell bytes

-- Two characters a byte.
pub spells-length : {text bytes : List ℕ} → Spells text bytes → length text ≡ 2 * length bytes
spells-length none = refl
spells-length (byte high low h g s) = omega (arith, spells-length s)

-- What is spelled are bytes.
pub spells-bytes : {text bytes : List ℕ} → Spells text bytes → all_bytes bytes ≡ true
unfolding all_bytes
spells-bytes none = refl
spells-bytes (byte {bytes = bytes} high low h g s) = bytes-more (16 * hex_digit high + hex_digit low) bytes (omega arith) (spells-bytes s)

-- They are those that the text's characters write, whatever follows it.
pub spells-in : {text bytes : List ℕ} (rest : List ℕ) → Spells text bytes → bytes_in (length bytes) (text ++ rest) ≡ bytes
unfolding bytes_in
spells-in rest none = refl
spells-in rest (byte high low h g s) =
    let both = and_both _ _ (lt-ltb (hex_digit high) 16 h) (lt-ltb (hex_digit low) 16 g) in
    ap₂ (λ (b : ℕ) (l : List ℕ). b ∷ l) (sym (digits-write high low refl refl both)) (spells-in rest s)

-- Where a text's characters write bytes, its front spells them.
pub in-spells : (n : ℕ) (text : List ℕ) → all_bytes (bytes_in n text) ≡ true → Spells (take (2 * n) text) (bytes_in n text)
unfolding bytes_in
in-spells zero text e = none
in-spells (suc n) [] e = absurd (omega (arith, (by_digits 0 0 (bytes-first _ _ e)).0))
in-spells (suc n) (high ∷ []) e = absurd (omega (arith, (by_digits high 0 (bytes-first _ _ e)).1))
in-spells (suc n) (high ∷ low ∷ text) e =
    let digits = by_digits high low (bytes-first _ _ e) in
    let two : suc (suc (2 * n)) ≡ 2 * suc n = omega arith in
    subst (λ (k : ℕ). Spells (take k (high ∷ low ∷ text)) (byte_of high low ∷ bytes_in n text)) two
    (subst (λ (b : ℕ). Spells (high ∷ low ∷ take (2 * n) text) (b ∷ bytes_in n text)) (sym digits.2)
    (byte high low digits.0 digits.1 (in-spells n text (bytes_rest _ _ e))))

-- Bytes as digits spell them.
pub text-spells : (bytes : List ℕ) → all_bytes bytes ≡ true → Spells (bytes_text bytes) bytes
unfolding bytes_text
text-spells [] e = none
text-spells (b ∷ bs) e =
    let small = bytes-first b bs e in
    let high = digit-of (b / 16) (omega arith) in
    let low = digit-of (b % 16) (omega arith) in
    let is : 16 * hex_digit (hex_character (b / 16)) + hex_digit (hex_character (b % 16)) ≡ b = omega arith in
    subst (λ (x : ℕ). Spells (hex_character (b / 16) ∷ hex_character (b % 16) ∷ bytes_text bs) (x ∷ bs)) is
    (byte (hex_character (b / 16)) (hex_character (b % 16)) (omega arith) (omega arith) (text-spells bs (bytes_rest b bs e)))

-- ---- upper case

-- Where a text has no lower-case letter, its front has none.
pub upper-left : (a b : List ℕ) → NoLower (a ++ b) → NoLower a
upper-left [] b h i p q = absurd (omega arith)
upper-left (c ∷ a) b h zero p q = h zero p q
upper-left (c ∷ a) b h (suc i) p q = upper-left a b (λ j. h (suc j)) i p q

-- Nor has what follows that.
pub upper-right : (a b : List ℕ) → NoLower (a ++ b) → NoLower b
upper-right [] b h = h
upper-right (c ∷ a) b h = upper-right a b (λ j. h (suc j))

-- One text without a lower-case letter behind another.
pub upper-append : (a b : List ℕ) → NoLower a → NoLower b → NoLower (a ++ b)
upper-append [] b h g i p q = g i p q
upper-append (c ∷ a) b h g zero p q = h zero p q
upper-append (c ∷ a) b h g (suc i) p q = upper-append a b (λ j. h (suc j)) g i p q

-- Bytes as digits have none.
pub text-upper : (bytes : List ℕ) → all_bytes bytes ≡ true → NoLower (bytes_text bytes)
unfolding bytes_text
text-upper [] e i p q = absurd (omega arith)
text-upper (b ∷ bs) e zero p q = absurd (omega (arith, bytes-first b bs e, character-upper (b / 16) (omega (arith, bytes-first b bs e))))
text-upper (b ∷ bs) e (suc zero) p q = absurd (omega (arith, character-upper (b % 16) (omega arith)))
text-upper (b ∷ bs) e (suc (suc i)) p q = text-upper bs (bytes_rest b bs e) i p q

-- A text without a lower-case letter that spells bytes is the bytes as digits.
pub spells-upper : {text bytes : List ℕ} → Spells text bytes → NoLower text → text ≡ bytes_text bytes
unfolding bytes_text
spells-upper none upper = refl
spells-upper (byte {text = text} high low h g s) upper =
    let b = 16 * hex_digit high + hex_digit low in
    let first : hex_digit high ≡ b / 16 = omega arith in
    let second : hex_digit low ≡ b % 16 = omega arith in
    let front : high ≡ hex_character (b / 16) = sym (character-of high h (upper 0)) ∙ ap hex_character first in
    let next : low ≡ hex_character (b % 16) = sym (character-of low g (upper 1)) ∙ ap hex_character second in
    let rest = spells-upper s (λ i. upper (suc (suc i))) in
    λ i. front i ∷ next i ∷ rest i
