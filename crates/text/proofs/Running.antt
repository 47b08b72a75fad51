-- How digits are written from a higher place down to a lower one.
use Rattle.std.proofs.Common.{◌≡◌, ℕ, zero, suc, ◌+◌, ◌-◌, ◌*◌, ◌/◌, ◌%◌, ◌^◌, ◌<◌, ◌≤◌, ltb, List, [], ◌∷◌, ◌++◌, length, set, sym, refl, ap, ◌∙◌, subst, mod-lt, mul_assoc, add-mul, lt_of_mul-lt-mul_right, mul-le-mul_left, div-add-mod', zero-mul, mul_left_comm, arith, length-set, ltb-false, ltb-true}
use native.Mathlib.Nat.{pow-succ', pow-le-pow_right, mul-mod_right}
use Rattle.text.specs.Ascii.{'0'}
use Rattle.text.specs.Numbers.{last_digits}
use Rattle.text.specs.Powers.{Runs}
use Rattle.text.specs.Writing.{Put}
use Rattle.predicate.proofs.Bools.{split}
use Rattle.text.proofs.Counting.{quotient, remainder}
use Rattle.text.proofs.Numbers.{last_more}
use Rattle.text.proofs.Writing.{put-none, put-set, and_then}

-- ---- the units of the places

-- A place's unit is ten times that of the next lower place.
pub unit-down : (scale k : ℕ) → 0 < k → scale * 10 ^ k ≡ 10 * (scale * 10 ^ (k - 1))
unit-down scale zero h = absurd (omega arith)
unit-down scale (suc j) h =
    let lower : j ≡ suc j - 1 = omega arith in
    ap (λ (p : ℕ). scale * p) (pow-succ' 10 j) ∙ mul_left_comm scale 10 (10 ^ j) ∙ ap (λ (i : ℕ). 10 * (scale * 10 ^ i)) lower

-- Where the last place's unit is a multiple of 16, so is each before it.
pub unit-even : (scale to k : ℕ) → scale * 10 ^ to % 16 ≡ 0 → to ≤ k → scale * 10 ^ k % 16 ≡ 0
unit-even scale to zero h l =
    let same : to ≡ 0 = omega arith in
    subst (λ (i : ℕ). scale * 10 ^ i % 16 ≡ 0) same h
unit-even scale to (suc j) h l =
    split (ltb j to)
    (λ t.
    let same : to ≡ suc j = omega (arith, ltb-true j to t) in
    subst (λ (i : ℕ). scale * 10 ^ i % 16 ≡ 0) same h)
    (λ t.
    let lower : j ≡ suc j - 1 = omega arith in
    let even : scale * 10 ^ (suc j - 1) % 16 ≡ 0 = subst (λ (i : ℕ). scale * 10 ^ i % 16 ≡ 0) lower (unit-even scale to j h (ltb-false j to t)) in
    ap (λ (n : ℕ). n % 16) (unit-down scale (suc j) (omega arith)) ∙ tenfold (scale * 10 ^ (suc j - 1)) even)
  where
    tenfold : (n : ℕ) → n % 16 ≡ 0 → 10 * n % 16 ≡ 0
    tenfold n e =
        let whole : 10 * n ≡ 16 * (10 * (n / 16)) = omega arith in
        ap (λ (m : ℕ). m % 16) whole ∙ mul-mod_right 16 (10 * (n / 16))

-- No unit of a run is more than 10^18.
pub unit-most : {from to scale s : ℕ} → Runs from to scale s → (k : ℕ) → 0 < k → k ≤ from → scale * 10 ^ (k - 1) ≤ 10 ^ 18
unit-most {from} {to} {scale} {s} r k some h =
    omega (arith, r.room, unit-down scale k some, mul-le-mul_left scale (pow-le-pow_right {n = 10} (omega arith) h))

-- ---- what is written

-- The places above `k` are written, and `left` is what they leave of `s`.
pub record DigitRun (row : List ℕ) (end from to scale s : ℕ) (out : List ℕ) (left k : ℕ) : Type 0 where
  pub value : ℕ
  pub whole : s ≡ value * (scale * 10 ^ k) + left
  pub under : left < scale * 10 ^ k
  pub even : left % 16 ≡ 0
  pub low : to ≤ k
  pub high : k ≤ from
  pub put : Put row (end - from) (last_digits (from - k) value) out (end - k)
  pub size : length out ≡ length row

-- Nothing is written yet.
pub run-begins : {row : List ℕ} {end from to scale s : ℕ} → Runs from to scale s → DigitRun row end from to scale s row s from
unfolding last_digits
run-begins {row} {end} {from} {to} {scale} {s} r =
    let here : 0 ≡ from - from = omega arith in
    let none : last_digits 0 0 ≡ last_digits (from - from) 0 = ap (λ (i : ℕ). last_digits i 0) here in
    record {
      value = 0;
      whole = omega (arith, zero-mul (scale * 10 ^ from));
      under = r.under;
      even = r.number;
      low = r.last;
      high = omega arith;
      put = subst (λ (t : List ℕ). Put row (end - from) t row (end - from)) none (record { ends = omega arith; holds = put-none row (end - from) });
      size = refl;
    }

-- All is written that was to be.
pub run_ends : {row : List ℕ} {end from to scale s : ℕ} {out : List ℕ} {left k : ℕ} → DigitRun row end from to scale s out left k → k ≤ to →
    (left ≡ s % (scale * 10 ^ to)) × Put row (end - from) (last_digits (from - to) (s / (scale * 10 ^ to))) out (end - to)
run_ends {row} {end} {from} {to} {scale} {s} {out} {left} {k} w h =
    let here : k ≡ to = omega (arith, w.low) in
    let at : DigitRun row end from to scale s out left to = subst (DigitRun row end from to scale s out left) here w in
    let u = scale * 10 ^ to in (
      sym (remainder s at.value u left at.whole at.under),
      subst (λ (n : ℕ). Put row (end - from) (last_digits (from - to) n) out (end - to)) (sym (quotient s at.value u left at.whole at.under)) at.put,
    )

-- The next place's digit, counted.
module _ (left u : ℕ) (even : left % 16 ≡ 0) (unit : u % 16 ≡ 0) (under : left < 10 * u) where
  parts : left / u * u + left % u ≡ left
  parts = div-add-mod' left u

  pub digit_low : left / u < 10
  digit_low = lt_of_mul-lt-mul_right u (omega (arith, parts))

  pub rest-even : left % u % 16 ≡ 0
  rest-even =
      let sixteen : u ≡ 16 * (u / 16) = omega arith in
      let times : left / u * u ≡ 16 * (left / u * (u / 16)) = ap (λ (n : ℕ). left / u * n) sixteen ∙ mul_left_comm (left / u) 16 (u / 16) in
      omega (arith, parts)

  pub rest_under : left % u < u
  rest_under = mod-lt left (omega arith)

  -- The low four bits are the digit.
  pub digit-bits : (left % u + left / u) % 16 ≡ left / u
  digit-bits = omega (arith, digit_low, rest-even)

  -- The same units, one place lower.
  pub regrouped : (s value : ℕ) → s ≡ value * (10 * u) + left → s ≡ (10 * value + left / u) * u + left % u
  regrouped s value e =
      omega (arith, parts, add-mul (10 * value) (left / u) u, mul_assoc 10 value u, mul_left_comm value 10 u)

-- The next digit can be counted by the unit that the table gives.
pub countable : {row : List ℕ} {end from to scale s : ℕ} {out : List ℕ} {left k : ℕ} (p : ℕ) → p ≡ 10 ^ (k - 1) → Runs from to scale s →
    DigitRun row end from to scale s out left k → to < k →
    (left % 16 ≡ 0) × (scale * p % 16 ≡ 0) × (left < 10 * (scale * p)) × (scale * p ≤ 10 ^ 18)
countable {row} {end} {from} {to} {scale} {s} {out} {left} {k} p e runs w more =
    subst (λ (n : ℕ). (left % 16 ≡ 0) × (scale * n % 16 ≡ 0) × (left < 10 * (scale * n)) × (scale * n ≤ 10 ^ 18)) (sym e) (
      w.even,
      unit-even scale to (k - 1) runs.unit (omega arith),
      omega (arith, w.under, unit-down scale k (omega arith)),
      unit-most runs k (omega arith) w.high,
    )

-- One place more is written.
pub run_more : {row : List ℕ} {end from to scale s : ℕ} {out : List ℕ} {left k : ℕ} (next : ℕ) → Runs from to scale s → from ≤ end → end ≤ length row →
    DigitRun row end from to scale s out left k → to < k → next ≡ left % (scale * 10 ^ (k - 1)) + left / (scale * 10 ^ (k - 1)) →
    DigitRun row end from to scale s (set out (end - k) ('0' + next % 16)) (next - next % 16) (k - 1)
run_more {row} {end} {from} {to} {scale} {s} {out} {left} {k} next runs fits room w more e =
    let u = scale * 10 ^ (k - 1) in
    let down : scale * 10 ^ k ≡ 10 * u = unit-down scale k (omega arith) in
    let unit : u % 16 ≡ 0 = unit-even scale to (k - 1) runs.unit (omega arith) in
    let under : left < 10 * u = omega (arith, w.under) in
    let low : left / u < 10 = digit_low left u w.even unit under in
    let digit : next % 16 ≡ left / u = ap (λ (n : ℕ). n % 16) e ∙ digit-bits left u w.even unit under in
    let rest : next - next % 16 ≡ left % u = omega (arith, e, digit) in
    let value = 10 * w.value + left / u in
    let places : from - (k - 1) ≡ suc (from - k) = omega (arith, w.high) in
    let text : last_digits (from - k) w.value ++ (('0' + next % 16) ∷ []) ≡ last_digits (from - (k - 1)) value =
    ap (λ (d : ℕ). last_digits (from - k) w.value ++ (('0' + d) ∷ [])) digit
    ∙ sym (last_more (from - k) w.value (left / u) low)
    ∙ ap (λ (i : ℕ). last_digits i value) (sym places) in
    let here : end - k < length out = omega (arith, w.size, w.high) in
    let byte : Put out (end - k) (('0' + next % 16) ∷ []) (set out (end - k) ('0' + next % 16)) (end - (k - 1)) =
    record { ends = omega (arith, w.high); holds = put-set out (end - k) ('0' + next % 16) here } in
    record {
      value = value;
      whole = regrouped left u w.even unit under s w.value (w.whole ∙ ap (λ (n : ℕ). w.value * n + left) down) ∙ ap (λ (n : ℕ). value * u + n) (sym rest);
      under = omega (arith, rest, rest_under left u w.even unit under);
      even = ap (λ (n : ℕ). n % 16) rest ∙ rest-even left u w.even unit under;
      low = omega arith;
      high = omega (arith, w.high);
      put = subst (λ (t : List ℕ). Put row (end - from) t (set out (end - k) ('0' + next % 16)) (end - (k - 1))) text (and_then w.put byte (omega arith));
      size = length-set out (end - k) ('0' + next % 16) ∙ w.size;
    }
