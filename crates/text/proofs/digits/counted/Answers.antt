-- `text::digits::counted` meets its contract: the unit is taken off eight or four times, twice and once where that fits.
use Rattle.std.proofs.Common.{◌≡◌, ℕ, suc, ◌+◌, ◌-◌, ◌*◌, ◌/◌, ◌%◌, ◌^◌, ◌<◌, ◌≤◌, cond, ltb, sym, ap, ◌∙◌, subst, mul-le-mul_right, add-mul, mul-suc, mul_left_comm, arith, ltb-false, ltb-true}
use Rattle.predicate.proofs.Bools.{on}
use Rattle.text.proofs.Counting.{Counting, too_many, so-many, halved, all-counted}
use Rattle.text.proofs.digits.counted.Goals as goal

module _ (s unit : ℕ) (p : (s % 16 ≡ 0) × (unit % 16 ≡ 0) × (s < 10 * unit) × (unit ≤ 10 ^ 18)) where
  -- The count stands with less than `j` units left.
  abbrev At : ℕ → ℕ → Type 0
  At j r = Counting (s / 16) (unit / 16) j r

  -- So many units less as many.
  lot : (j : ℕ) → j * (unit - 1) + j ≡ 16 * (j * (unit / 16))
  lot j =
      let whole : suc (unit - 1) ≡ 16 * (unit / 16) = omega (arith, p.1, p.2) in
      sym (mul-suc j (unit - 1)) ∙ ap (λ (n : ℕ). j * n) whole ∙ mul_left_comm j 16 (unit / 16)

  -- Nothing is counted yet, and a digit is below 10.
  begins : (i : ℕ) → 10 ≤ i → i ≤ 16 → At i s
  begins i least most =
      let u = unit / 16 in
      let all : 10 * u ≤ i * u = mul-le-mul_right u least in
      record { count = 0; left = s / 16; holds = omega (arith, p.0); whole = omega arith; under = omega (arith, p.0, p.1, p.2); room = omega arith }

  -- So many times, or else four: with four more it must reach every digit.
  many-or-four : {q r : ℕ} (j : ℕ) → q ≡ cond (ltb s (4 * (unit - 1))) s (s - 4 * (unit - 1)) →
      r ≡ cond (ltb s (j * (unit - 1))) q (s - j * (unit - 1)) → 10 ≤ j + 4 → j ≤ 8 → At 4 r
  many-or-four {q} {r} j eq er enough few =
      let many = j * (unit - 1) in
      let most : many ≤ 8 * (unit - 1) = mul-le-mul_right (unit - 1) few in
      subst (At 4) (sym er) (on (At 4) (ltb s many) q (s - many)
      (λ t.
      let eight = too_many 8 (8 * (unit - 1)) (begins 16 (omega arith) (omega arith)) (omega arith) (lot 8) (omega (arith, ltb-true s many t)) in
      halved 4 (4 * (unit - 1)) eight (omega arith) (lot 4) eq)
      (λ t. so-many j 4 many (begins (j + 4) enough (omega arith)) (omega arith) (lot j) (ltb-false s many t)))

  -- Twice.
  two : {q r : ℕ} → At 4 q → r ≡ cond (ltb q (2 * (unit - 1))) q (q - 2 * (unit - 1)) → At 2 r
  two c e = halved 2 (2 * (unit - 1)) c (omega arith) (lot 2) e

  -- Once, and all is counted.
  one : {q r : ℕ} → At 2 q → r ≡ cond (ltb q (unit - 1)) q (q - (unit - 1)) → r ≡ s % unit + s / unit
  one c e =
      all-counted s unit (omega (arith, p.0)) (omega (arith, p.1)) (halved 1 (unit - 1) c (omega arith) (omega (arith, p.1, p.2)) e)

  -- So many units can be taken off without a wrap.
  near : {i q : ℕ} (j : ℕ) → At i q → j ≤ 8 → i ≤ j + 8 → (q < j * (unit - 1) + 2 ^ 63) × (j * (unit - 1) ≤ q + 2 ^ 63)
  near {i} {q} j c few most =
      let u = unit / 16 in
      let all : i * u ≤ j * u + 8 * u = subst (λ (n : ℕ). i * u ≤ n) (add-mul j 8 u) (mul-le-mul_right u most) in
      let some : j * u ≤ 8 * u = mul-le-mul_right u few in
      (omega (arith, lot j, c.holds, c.under, c.room, p.1, p.3), omega (arith, lot j, p.1, p.3))

pub reduced-requires : goal.reduced-requires
reduced-requires c = near _ _ c.requires _ (begins _ _ c.requires 10 (omega arith) (omega arith)) (omega arith) (omega arith)

pub reduced-s-requires : goal.reduced-s-requires
reduced-s-requires c = near _ _ c.requires _ (begins _ _ c.requires 10 (omega arith) (omega arith)) (omega arith) (omega arith)

pub reduced-s-requires-2 : goal.reduced-s-requires-2
reduced-s-requires-2 c =
    let p = c.requires in
    near _ _ p _ (many-or-four _ _ p _ c.reduced.ensures c.reduced-s.ensures (omega arith) (omega arith)) (omega arith) (omega arith)

pub reduced-requires-2 : goal.reduced-requires-2
reduced-requires-2 c =
    let p = c.requires in
    let fours = many-or-four _ _ p _ c.reduced.ensures c.reduced-s.ensures (omega arith) (omega arith) in
    let fits = near _ _ p 1 (two _ _ p fours c.reduced-s-2.ensures) (omega arith) (omega arith) in
    (omega (arith, fits.0), omega (arith, fits.1))

pub returns : goal.returns
returns c =
    let p = c.requires in
    let fours = many-or-four _ _ p _ c.reduced.ensures c.reduced-s.ensures (omega arith) (omega arith) in
    one _ _ p (two _ _ p fours c.reduced-s-2.ensures) c.reduced-2.ensures
