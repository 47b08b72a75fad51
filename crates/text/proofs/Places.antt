-- How a number's digits are made of runs: those above the last four, the last four, and the last one.
use Rattle.std.proofs.Common.{◌≡◌, ℕ, suc, ◌+◌, ◌-◌, ◌*◌, ◌/◌, ◌%◌, ◌^◌, ◌<◌, ◌≤◌, ltb, List, [], ◌∷◌, ◌++◌, length, set, sym, refl, ap, ◌∙◌, subst, arith, ltb-false, ltb-true}
use native.Mathlib.Nat.{mul-mod_right, pow-le-pow_right}
use Rattle.text.specs.Ascii.{'0'}
use Rattle.text.specs.Numbers.{number_text, last_digits}
use Rattle.text.specs.Powers.{Runs}
use Rattle.text.specs.Writing.{Put}
use Rattle.predicate.proofs.Bools.{split}
use Rattle.text.proofs.Counting.{quotient, remainder}
use Rattle.text.proofs.Numbers.{last-join, number-last, number-width, number-long}
use Rattle.text.proofs.Writing.{put-set, and_then}

-- A power of ten is at most one of more zeros.
power-most : (k most : ℕ) → k ≤ most → 10 ^ k ≤ 10 ^ most
power-most k most h = pow-le-pow_right {n = 10} (omega arith) h

-- A byte behind what is written.
pub byte_more : {row text mid : List ℕ} {at end : ℕ} (b : ℕ) → Put row at text mid end → end < length row → length mid ≡ length row →
    Put row at (text ++ (b ∷ [])) (set mid end b) (end + 1)
byte_more {row} {text} {mid} {at} {end} b p room same =
    and_then p (record { ends = refl; holds = put-set mid end b (omega arith) }) (omega arith)

-- ---- the last four

-- Sixteen times a number of at most four digits is a run down to the last but one.
pub last_runs : {from n : ℕ} → 0 < from → from ≤ 4 → n < 10 ^ from → Runs from 1 16 (16 * n)
last_runs {from} {n} some few under =
    record {
      last = some;
      first = omega arith;
      room = omega (arith, power-most from 4 few);
      unit = refl;
      number = mul-mod_right 16 n;
      under = omega arith;
    }

-- The last digit, behind the run before it.
pub last_written : {row mid : List ℕ} {end from r : ℕ} (n : ℕ) → 0 < from → from ≤ end → end ≤ length row → length mid ≡ length row →
    r ≡ 16 * n % (16 * 10 ^ 1) →
    Put row (end - from) (last_digits (from - 1) (16 * n / (16 * 10 ^ 1))) mid (end - 1) →
    Put row (end - from) (last_digits from n) (set mid (end - 1) ('0' + r / 16)) end
unfolding last_digits
last_written {row} {mid} {end} {from} {r} n some fits room same e p =
    let places : from ≡ suc (from - 1) = omega arith in
    let whole : 16 * n ≡ n / 10 * 160 + 16 * (n % 10) = omega arith in
    let tens : 16 * n / 160 ≡ n / 10 = quotient (16 * n) (n / 10) 160 (16 * (n % 10)) whole (omega arith) in
    let ones : 16 * n % 160 ≡ 16 * (n % 10) = remainder (16 * n) (n / 10) 160 (16 * (n % 10)) whole (omega arith) in
    let digit : r / 16 ≡ n % 10 = omega (arith, e, ones) in
    let text : last_digits (from - 1) (16 * n / 160) ++ (('0' + r / 16) ∷ []) ≡ last_digits from n =
    ap (λ (m : ℕ). last_digits (from - 1) m ++ (('0' + r / 16) ∷ [])) tens
    ∙ ap (λ (d : ℕ). last_digits (from - 1) (n / 10) ++ (('0' + d) ∷ [])) digit
    ∙ ap (λ (k : ℕ). last_digits k n) (sym places) in
    let here : end - 1 + 1 ≡ end = omega arith in
    let written = byte_more ('0' + r / 16) p (omega arith) same in
    subst (λ (k : ℕ). Put row (end - from) (last_digits from n) (set mid (end - 1) ('0' + r / 16)) k) here
    (subst (λ (t : List ℕ). Put row (end - from) t (set mid (end - 1) ('0' + r / 16)) (end - 1 + 1)) text written)

-- ---- those above

-- The multiple of 16 below a number of at most nineteen digits is a run down to the fifth.
pub upper-runs : {from n : ℕ} → 4 < from → from ≤ 19 → n < 10 ^ from → Runs from 4 1 (n - n % 16)
upper-runs {from} {n} many few under =
    let even : n - n % 16 ≡ 16 * (n / 16) = omega arith in
    record {
      last = omega arith;
      first = few;
      room = omega (arith, power-most from 19 few);
      unit = refl;
      number = ap (λ (m : ℕ). m % 16) even ∙ mul-mod_right 16 (n / 16);
      under = omega arith;
    }

-- 10^4 is 625 sixteens: what is below a sixteen plays no part in the digits above the last four.
module _ (n : ℕ) where
  abbrev upper : ℕ
  upper = n / 16 / 625

  abbrev lower : ℕ
  lower = 16 * (n / 16 % 625) + n % 16

  whole : n ≡ upper * 10000 + lower
  whole = omega arith

  lower-under : lower < 10000
  lower-under = omega arith

  even-whole : n - n % 16 ≡ upper * 10000 + 16 * (n / 16 % 625)
  even-whole = omega arith

  upper-same : (n - n % 16) / 10000 ≡ upper
  upper-same = quotient (n - n % 16) upper 10000 (16 * (n / 16 % 625)) even-whole (omega arith)

  lower-same : (n - n % 16) % 10000 + n % 16 ≡ lower
  lower-same = omega (arith, remainder (n - n % 16) upper 10000 (16 * (n / 16 % 625)) even-whole (omega arith))

  pub left-under : (n - n % 16) % 10000 + n % 16 < 10 ^ 4
  left-under = omega (arith, lower-same, lower-under)

  -- The digits above the last four, and those four.
  pub upper-lower : (from : ℕ) → 4 < from → last_digits from n ≡ last_digits (from - 4) ((n - n % 16) / 10000) ++ last_digits 4 ((n - n % 16) % 10000 + n % 16)
  upper-lower from many =
      let places : from ≡ from - 4 + 4 = omega arith in
      ap (λ (k : ℕ). last_digits k n) places
      ∙ ap (last_digits (from - 4 + 4)) whole
      ∙ last-join (from - 4) 4 upper lower lower-under
      ∙ ap (λ (m : ℕ). last_digits (from - 4) m ++ last_digits 4 lower) (sym upper-same)
      ∙ ap (λ (m : ℕ). last_digits (from - 4) ((n - n % 16) / 10000) ++ last_digits 4 m) (sym lower-same)

-- Both written, one behind the other.
pub places-written : {row mid after : List ℕ} {end from left : ℕ} (n : ℕ) → 4 < from → from ≤ end → end ≤ length row → left ≡ (n - n % 16) % 10000 →
    Put row (end - from) (last_digits (from - 4) ((n - n % 16) / 10000)) mid (end - 4) → Put mid (end - 4) (last_digits 4 (left + n % 16)) after end →
    Put row (end - from) (last_digits from n) after end
places-written {row} {mid} {after} {end} {from} {left} n many fits room e p q =
    let four = subst (λ (m : ℕ). Put mid (end - 4) (last_digits 4 (m + n % 16)) after end) e q in
    subst (λ (t : List ℕ). Put row (end - from) t after end) (sym (upper-lower n from many)) (and_then p four (omega arith))

-- ---- a whole number

-- A number has as many digits as take it below the next power.
pub number-below : (n : ℕ) → n < 10 ^ length (number_text n)
number-below n =
    split (ltb n (10 ^ length (number_text n)))
    (λ t. ltb-true n (10 ^ length (number_text n)) t)
    (λ t. absurd (omega (arith, number-long (length (number_text n)) n (ltb-false n (10 ^ length (number_text n)) t))))

-- A number of 64 bits from 10^19 on has twenty digits.
pub twenty : (n : ℕ) → 10 ^ 19 ≤ n → n < 2 ^ 64 → length (number_text n) ≡ 20
twenty n high low = omega (arith, number-width 19 n (omega arith), number-long 19 n high)

-- They are a 1 and nineteen more.
one-nineteen : (n : ℕ) → 10 ^ 19 ≤ n → n < 2 ^ 64 → number_text n ≡ (('0' + 1) ∷ []) ++ last_digits 19 (n - 10 ^ 19)
unfolding last_digits
one-nineteen n high low =
    let parts : n ≡ 1 * 10 ^ 19 + (n - 10 ^ 19) = omega arith in
    number-last n ∙ ap (λ (k : ℕ). last_digits k n) (twenty n high low) ∙ ap (last_digits 20) parts ∙ last-join 1 19 1 (n - 10 ^ 19) (omega arith)

-- Written so.
pub twenty-written : {row after : List ℕ} {end : ℕ} (n p : ℕ) → p ≡ 10 ^ 19 → p ≤ n → n < 2 ^ 64 → 20 ≤ end → end ≤ length row →
    Put (set row (end - 20) ('0' + 1)) (end - 19) (last_digits 19 (n - p)) after end → Put row (end - 20) (number_text n) after end
twenty-written {row} {after} {end} n p e high low fits room q =
    let one : Put row (end - 20) (('0' + 1) ∷ []) (set row (end - 20) ('0' + 1)) (end - 19) =
    record { ends = omega arith; holds = put-set row (end - 20) ('0' + 1) (omega arith) } in
    let rest = subst (λ (m : ℕ). Put (set row (end - 20) ('0' + 1)) (end - 19) (last_digits 19 (n - m)) after end) e q in
    subst (λ (t : List ℕ). Put row (end - 20) t after end) (sym (one-nineteen n (omega arith) low)) (and_then one rest (omega arith))

-- Any other is written as its last digits, as many as it has.
pub number-written : {row after : List ℕ} {end : ℕ} (n d : ℕ) → d ≡ length (number_text n) → Put row (end - d) (last_digits d n) after end →
    Put row (end - d) (number_text n) after end
number-written {row} {after} {end} n d e q =
    subst (λ (t : List ℕ). Put row (end - d) t after end) (ap (λ (k : ℕ). last_digits k n) e ∙ sym (number-last n)) q
