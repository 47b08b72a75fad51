-- What is true of a number's text.
use Rattle.std.proofs.Common.{◌≡◌, ℕ, zero, suc, ◌+◌, ◌-◌, ◌*◌, ◌/◌, ◌%◌, ◌^◌, ◌<◌, ◌≤◌, true, ◌&&◌, ltb, leb, List, [], ◌∷◌, ◌++◌, length, get_or, sym, refl, ap, ◌∙◌, subst, append_assoc, append-nil, pow-suc, mul_left_comm, arith, length-append, ltb-false, ltb-true, le-ltb, lt-ltb, le-leb}
use native.Mathlib.Nat.{pow-succ'}
use Rattle.text.specs.Ascii.{'0', '9'}
use Rattle.text.specs.Numbers.{spelled, number_text, last_digits, all_digits, value_after, value}
use Rattle.text.specs.Writing.{Put}
use Rattle.predicate.proofs.Bools.{split, chosen, passed_over, and_left, and_right, and_both}

-- ---- the digits

-- The last digit, and the others where there are any.
one-digit : (n most : ℕ) → n < 10 → spelled (suc most) n ≡ ('0' + n) ∷ []
unfolding spelled
one-digit n most h =
    chosen (ltb n 10) (('0' + n) ∷ []) (spelled most (n / 10) ++ (('0' + n % 10) ∷ [])) (lt-ltb n 10 h)

more-digits : (n most : ℕ) → 10 ≤ n → spelled (suc most) n ≡ spelled most (n / 10) ++ (('0' + n % 10) ∷ [])
unfolding spelled
more-digits n most h =
    passed_over (ltb n 10) (('0' + n) ∷ []) (spelled most (n / 10) ++ (('0' + n % 10) ∷ [])) (le-ltb n 10 h)

-- Any bound that is large enough gives the same digits.
any-bound : (m k n : ℕ) → n < m → n < k → spelled m n ≡ spelled k n
any-bound zero k n h g = absurd (omega arith)
any-bound (suc m) zero n h g = absurd (omega arith)
any-bound (suc m) (suc k) n h g =
    split (ltb n 10)
    (λ t. one-digit n m (ltb-true n 10 t) ∙ sym (one-digit n k (ltb-true n 10 t)))
    (λ t.
    let more : 10 ≤ n = ltb-false n 10 t in
    more-digits n m more ∙ ap (λ (l : List ℕ). l ++ (('0' + n % 10) ∷ [])) (any-bound m k (n / 10) (omega arith) (omega arith)) ∙ sym (more-digits n k more))

-- A number under 10 is one digit.
pub number-one : (n : ℕ) → n < 10 → number_text n ≡ ('0' + n) ∷ []
number-one n h = one-digit n n h

-- Any other is the digits of its tenth, and one more.
pub number_more : (n : ℕ) → 10 ≤ n → number_text n ≡ number_text (n / 10) ++ (('0' + n % 10) ∷ [])
number_more n h =
    more-digits n n h ∙ ap (λ (l : List ℕ). l ++ (('0' + n % 10) ∷ [])) (any-bound n (suc (n / 10)) (n / 10) (omega arith) (omega arith))

-- What holds of the texts of one digit, and of a text where it holds of its tenth's, holds of every number's.
pub by-tenths : (P : ℕ → List ℕ → Type 0) → ((n : ℕ) → n < 10 → P n (('0' + n) ∷ [])) →
    ((n : ℕ) (l : List ℕ) → 10 ≤ n → P (n / 10) l → P n (l ++ (('0' + n % 10) ∷ []))) → (n : ℕ) → P n (number_text n)
by-tenths P one more n = go (suc n) n (omega arith)
  where
    go : (bound n : ℕ) → n < bound → P n (number_text n)
    go zero n h = absurd (omega arith)
    go (suc bound) n h =
        split (ltb n 10)
        (λ t. subst (P n) (sym (number-one n (ltb-true n 10 t))) (one n (ltb-true n 10 t)))
        (λ t.
        let large : 10 ≤ n = ltb-false n 10 t in
        subst (P n) (sym (number_more n large)) (more n (number_text (n / 10)) large (go bound (n / 10) (omega arith))))

-- ---- how many there are

-- A number has a digit.
pub number-some : (n : ℕ) → 0 < length (number_text n)
number-some =
    by-tenths (λ n l. 0 < length l) (λ n h. omega arith) (λ n l h p. omega (arith, length-append l (('0' + n % 10) ∷ [])))

-- A number below 10^k has at most k digits.
pub number-width : (k n : ℕ) → n < 10 ^ suc k → length (number_text n) ≤ suc k
number-width zero n h = omega (arith, ap length (number-one n (omega (arith, pow-suc 10 0))))
number-width (suc k) n h =
    split (ltb n 10)
    (λ t. omega (arith, ap length (number-one n (ltb-true n 10 t))))
    (λ t.
    let large : 10 ≤ n = ltb-false n 10 t in
    let tenth : length (number_text (n / 10)) ≤ suc k = number-width k (n / 10) (omega (arith, pow-suc 10 (suc k))) in
    omega (arith, ap length (number_more n large), length-append (number_text (n / 10)) (('0' + n % 10) ∷ [])))

-- One from 10^k on has more than k.
pub number-long : (k n : ℕ) → 10 ^ k ≤ n → k < length (number_text n)
number-long zero n h = number-some n
number-long (suc k) n h =
    let tenth : k < length (number_text (n / 10)) = number-long k (n / 10) (omega (arith, pow-suc 10 k)) in
    omega (arith, pow-suc 10 k, ten-pow k, ap length (number_more n (omega (arith, pow-suc 10 k, ten-pow k))), length-append (number_text (n / 10)) (('0' + n % 10) ∷ []))
  where
    ten-pow : (k : ℕ) → 0 < 10 ^ k
    ten-pow zero = omega arith
    ten-pow (suc k) = omega (arith, pow-suc 10 k, ten-pow k)

-- A 64-bit number has at most twenty digits.
pub word_width : (n : ℕ) → n < 2 ^ 64 → length (number_text n) ≤ 20
word_width n h = number-width 19 n (omega arith)

-- ---- reading them

none : value_after 0 [] ≡ 0
unfolding value_after
none = refl

-- A digit behind others.
value-snoc : (n : ℕ) (l : List ℕ) (b : ℕ) → value_after n (l ++ (b ∷ [])) ≡ 10 * value_after n l + (b - '0')
unfolding value_after
value-snoc n [] b = refl
value-snoc n (c ∷ cs) b = value-snoc (10 * n + (c - '0')) cs b

digits-snoc : (l : List ℕ) (b : ℕ) → all_digits l ≡ true → '0' ≤ b → b ≤ '9' → all_digits (l ++ (b ∷ [])) ≡ true
unfolding all_digits
digits-snoc [] b p low high = and_both (leb '0' b && leb b '9') true (and_both (leb '0' b) (leb b '9') (le-leb '0' b low) (le-leb b '9' high)) refl
digits-snoc (c ∷ cs) b p low high =
    let this = leb '0' c && leb c '9' in
    and_both this (all_digits (cs ++ (b ∷ []))) (and_left this (all_digits cs) p) (digits-snoc cs b (and_right this (all_digits cs) p) low high)

first_of : (l : List ℕ) (b : ℕ) → 0 < length l → get_or (l ++ (b ∷ [])) 0 0 ≡ get_or l 0 0
first_of [] b h = absurd (omega arith)
first_of (c ∷ cs) b h = refl

-- A number's digits read as decimal give the number back.
pub number-value : (n : ℕ) → value (number_text n) ≡ n
number-value =
    by-tenths (λ n l. value l ≡ n) (λ n h. value-snoc 0 [] ('0' + n) ∙ omega (arith, none))
    (λ n l h p. value-snoc 0 l ('0' + n % 10) ∙ omega (arith, p))

-- They are digits alone.
pub number_digits : (n : ℕ) → all_digits (number_text n) ≡ true
unfolding all_digits
number_digits =
    by-tenths (λ n l. all_digits l ≡ true) (λ n h. digits-snoc [] ('0' + n) refl (omega arith) (omega arith))
    (λ n l h p. digits-snoc l ('0' + n % 10) p (omega arith) (omega arith))

-- The first of them is no zero.
pub number-first : (n : ℕ) → 0 < n → '0' < get_or (number_text n) 0 0
number-first n =
    (by-tenths (λ n l. (0 < length l) × (0 < n → '0' < get_or l 0 0)) (λ n h. (omega arith, λ p. omega arith))
    (λ n l h p. (
      omega (arith, length-append l (('0' + n % 10) ∷ [])),
      λ _. subst (λ (b : ℕ). '0' < b) (sym (first_of l ('0' + n % 10) p.0)) (p.1 (omega arith)),
    )) n).1

-- ---- the last digits

-- One digit more behind others.
pub last_more : (k q d : ℕ) → d < 10 → last_digits (suc k) (10 * q + d) ≡ last_digits k q ++ (('0' + d) ∷ [])
unfolding last_digits
last_more k q d h =
    let tenth : (10 * q + d) / 10 ≡ q = omega arith in
    let digit : (10 * q + d) % 10 ≡ d = omega arith in
    ap (λ (n : ℕ). last_digits k n ++ (('0' + (10 * q + d) % 10) ∷ [])) tenth ∙ ap (λ (n : ℕ). last_digits k q ++ (('0' + n) ∷ [])) digit

-- Those of a number of two parts are those of each, one behind the other.
pub last-join : (a b q r : ℕ) → r < 10 ^ b → last_digits (a + b) (q * 10 ^ b + r) ≡ last_digits a q ++ last_digits b r
unfolding last_digits
last-join a zero q r h =
    let places : a + 0 ≡ a = omega arith in
    let number : q * 10 ^ 0 + r ≡ q = omega arith in
    ap (λ (k : ℕ). last_digits k (q * 10 ^ 0 + r)) places ∙ ap (last_digits a) number ∙ sym (append-nil (last_digits a q))
last-join a (suc b) q r h =
    let n = q * 10 ^ b + r / 10 in
    let digit = ('0' + r % 10) ∷ [] in
    let places : a + suc b ≡ suc (a + b) = omega arith in
    let shifted : q * 10 ^ suc b ≡ 10 * (q * 10 ^ b) = ap (λ (p : ℕ). q * p) (pow-succ' 10 b) ∙ mul_left_comm q 10 (10 ^ b) in
    let number : q * 10 ^ suc b + r ≡ 10 * n + r % 10 = omega arith in
    ap (λ (k : ℕ). last_digits k (q * 10 ^ suc b + r)) places
    ∙ ap (last_digits (suc (a + b))) number
    ∙ last_more (a + b) n (r % 10) (omega arith)
    ∙ ap (λ (l : List ℕ). l ++ digit) (last-join a b q (r / 10) (omega (arith, pow-suc 10 b)))
    ∙ append_assoc (last_digits a q) (last_digits b (r / 10)) digit

-- A number's text is as many of its last digits as it has.
pub number-last : (n : ℕ) → number_text n ≡ last_digits (length (number_text n)) n
unfolding last_digits
number-last =
    by-tenths (λ n l. l ≡ last_digits (length l) n) (λ n h. ap (λ (d : ℕ). ('0' + d) ∷ []) (omega arith))
    (λ n l h p.
    let size : length (l ++ (('0' + n % 10) ∷ [])) ≡ suc (length l) = length-append l (('0' + n % 10) ∷ []) ∙ omega arith in
    ap (λ (t : List ℕ). t ++ (('0' + n % 10) ∷ [])) p ∙ sym (ap (λ (k : ℕ). last_digits k n) size))

-- ---- a digit written

-- One digit is the text of a number under 10.
pub digit-put : {row after : List ℕ} {at end : ℕ} (n : ℕ) → n < 10 → Put row at (('0' + n) ∷ []) after end → Put row at (number_text n) after end
digit-put {row} {after} {at} {end} n h p = subst (λ (t : List ℕ). Put row at t after end) (sym (number-one n h)) p
