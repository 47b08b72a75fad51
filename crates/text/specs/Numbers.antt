-- A number's decimal text, and the number that digits write.
use Rattle.std.specs.Prelude.{◌≡◌, ℕ, zero, suc, ◌+◌, ◌-◌, ◌*◌, ◌/◌, ◌%◌, ◌^◌, ◌<◌, ◌≤◌, Bool, true, cond, ◌&&◌, List, [], ◌∷◌, ◌++◌, length, nat_le, nat_lt, slice_index}
use Rattle.text.specs.Ascii.{'0', '9'}

-- A number's digits without leading zeros; `most` bounds how many there are.
unfoldable pub spelled : ℕ → ℕ → List ℕ
spelled zero n = []
spelled (suc most) n =
    let longer = spelled most (n / 10) ++ (('0' + n % 10) ∷ []) in cond (nat_lt n 10) (('0' + n) ∷ []) longer

-- A number's text: its fewest decimal digits; `n` has at most `n` + 1 of them.
abbrev pub number_text : ℕ → List ℕ
number_text n = spelled (suc n) n

-- A number's last `k` digits, zeros and all.
unfoldable pub last_digits : ℕ → ℕ → List ℕ
last_digits zero n = []
last_digits (suc k) n = last_digits k (n / 10) ++ (('0' + n % 10) ∷ [])

-- "numbers decimal": digits alone.
unfoldable pub all_digits : List ℕ → Bool
all_digits [] = true
all_digits (b ∷ bs) = (nat_le '0' b && nat_le b '9') && all_digits bs

-- The number that digits write after those that write `n`.
unfoldable pub value_after : ℕ → List ℕ → ℕ
value_after n [] = n
value_after n (b ∷ bs) = value_after (10 * n + (b - '0')) bs

-- The number that digits write.
abbrev pub value : List ℕ → ℕ
value f = value_after 0 f

-- ---- what is claimed of a number's text

-- It is a number's text in digits alone, which read as decimal give the number back.
pub record ReadsBack (n : ℕ) : Type 0 where
  pub digits : all_digits (number_text n) ≡ true
  pub number : value (number_text n) ≡ n

-- It has no leading zero: 0 is `0`, and any other number's first digit is not.
pub record NoLeadingZero : Type 0 where
  pub none : number_text 0 ≡ '0' ∷ []
  pub other : (n : ℕ) → 0 < n → '0' < slice_index (number_text n) 0

-- A number below 10^k has at most k digits; 2^64 − 1 has twenty.
pub record Widths : Type 0 where
  pub below : (k n : ℕ) → 0 < k → n < 10 ^ k → length (number_text n) ≤ k
  pub most : length (number_text (2 ^ 64 - 1)) ≡ 20

-- All that is claimed of a number's text.
pub record NumbersHold : Type 0 where
  pub read : (n : ℕ) → ReadsBack n
  pub zeros : NoLeadingZero
  pub widths : Widths
