-- How a digit is counted: what is left and the count, kept in one number.
use Rattle.std.proofs.Common.{◌≡◌, ℕ, ◌+◌, ◌-◌, ◌*◌, ◌/◌, ◌%◌, ◌^◌, ◌<◌, ◌≤◌, cond, ltb, sym, ap, ◌∙◌, subst, add-mul, div-add-mod', mul_left_comm, arith, ltb-false, ltb-true, le-ltb, lt-ltb}
use native.Mathlib.Nat.{mul-add-div_right, div-eq_of_lt}
use Rattle.predicate.proofs.Bools.{on, chosen, passed_over}

-- ---- a number taken off another

-- A wrapped difference below 2^63 is a difference.
pub taken-off : (s k other rest : ℕ) → (rest + k) % 2 ^ 64 ≡ s → rest < 2 ^ 63 → k < 2 ^ 64 → k ≤ s + 2 ^ 63 → rest ≡ cond (ltb s k) other (s - k)
taken-off s k other rest wraps low hk near =
    let fits : k ≤ s = omega arith in
    omega arith ∙ sym (passed_over (ltb s k) other (s - k) (le-ltb s k fits))

-- Any other shows that it did not fit.
pub left_alone : (s k other rest : ℕ) → (rest + k) % 2 ^ 64 ≡ s → 2 ^ 63 ≤ rest → rest < 2 ^ 64 → k < 2 ^ 64 → s < k + 2 ^ 63 →
    other ≡ cond (ltb s k) other (s - k)
left_alone s k other rest wraps high hr hk near =
    sym (chosen (ltb s k) other (s - k) (lt-ltb s k (omega arith)))

-- ---- a count

-- `x` is taken apart by `u` into a count and what is left, less than `j` units; `s` holds both.
pub record Counting (x u j s : ℕ) : Type 0 where
  pub count : ℕ
  pub left : ℕ
  pub holds : s ≡ 16 * left + count
  pub whole : x ≡ count * u + left
  pub under : left < j * u
  pub room : count + j ≤ 16

-- Where `j` units do not fit, less than `j` are left.
pub too_many : {x u i s : ℕ} (j k : ℕ) → Counting x u i s → j ≤ i → k + j ≡ 16 * (j * u) → s < k → Counting x u j s
too_many j k c fewer unit short =
    record { count = c.count; left = c.left; holds = c.holds; whole = c.whole; under = omega (arith, c.holds); room = omega (arith, c.room) }

-- Where they fit, they are taken off and counted.
pub so-many : {x u s : ℕ} (j m k : ℕ) → Counting x u (j + m) s → 0 < m → k + j ≡ 16 * (j * u) → k ≤ s → Counting x u m (s - k)
so-many {x} {u} {s} j m k c some unit long =
    let both : (j + m) * u ≡ j * u + m * u = add-mul j m u in
    let fits : j * u ≤ c.left = omega (arith, c.holds, c.room) in
    record {
      count = c.count + j;
      left = c.left - j * u;
      holds = omega (arith, c.holds);
      whole = c.whole ∙ omega (arith, add-mul c.count j u);
      under = omega (arith, c.under);
      room = omega (arith, c.room);
    }

-- So `j` of less than twice as many leave less than `j`.
pub halved : {x u s r : ℕ} (j k : ℕ) → Counting x u (j + j) s → 0 < j → k + j ≡ 16 * (j * u) → r ≡ cond (ltb s k) s (s - k) → Counting x u j r
halved {x} {u} {s} {r} j k c some unit e =
    subst (Counting x u j) (sym e) (on (Counting x u j) (ltb s k) s (s - k)
    (λ t. too_many j k c (omega arith) unit (ltb-true s k t))
    (λ t. so-many j j k c some unit (ltb-false s k t)))

-- ---- a count as a quotient

-- A number that is so many units and less than one more.
pub quotient : (s q u r : ℕ) → s ≡ q * u + r → r < u → s / u ≡ q
quotient s q u r e h =
    ap (λ (n : ℕ). n / u) e ∙ mul-add-div_right (omega arith) q r ∙ ap (λ (n : ℕ). q + n) (div-eq_of_lt h) ∙ omega arith

pub remainder : (s q u r : ℕ) → s ≡ q * u + r → r < u → s % u ≡ r
remainder s q u r e h =
    let parts : q * u + s % u ≡ s = ap (λ (n : ℕ). n * u + s % u) (sym (quotient s q u r e h)) ∙ div-add-mod' s u in
    omega arith

-- Sixteen times as much, counted to the end, is the remainder and the quotient together.
pub all-counted : {x u r : ℕ} (s unit : ℕ) → s ≡ 16 * x → unit ≡ 16 * u → Counting x u 1 r → r ≡ s % unit + s / unit
all-counted {x} {u} {r} s unit es eu c =
    let sixteen : c.count * unit ≡ 16 * (c.count * u) = ap (λ (n : ℕ). c.count * n) eu ∙ mul_left_comm c.count 16 u in
    let whole : s ≡ c.count * unit + 16 * c.left = omega (arith, c.whole) in
    let under : 16 * c.left < unit = omega (arith, c.under) in
    omega (arith, c.holds, quotient s c.count unit (16 * c.left) whole under, remainder s c.count unit (16 * c.left) whole under)
