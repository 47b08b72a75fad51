-- The bytes of a text summed from the first on, and what are no digits counted.
use Prim.Native.Nat.{ℕ, suc, ◌+◌, ◌*◌, ◌-◌, ◌/◌, ◌≤◌, ◌<◌}
use mathlib.Core.Path.{◌≡◌, sym, ap, ◌∙◌}
use mathlib.Core.List.{List, [], ◌∷◌}
use mathlib.Core.Bool.{Bool, true, false, ◌&&◌}
use native.Mathlib.Omega.{arith}
use lib.Dec.{ltb, eqb}
use lib.ListN.{get_or, drop}
use borrow.Author.Tests.{eqb-true, eqb-false, ltb-true, ltb-false, lt-ltb, le-ltb}
use Rattle.predicate.proofs.Bools.{split, and_both}
use Rattle.board.specs.Hex.{hex_digit, byte_of, bytes_in, all_bytes, sum_of}
use Rattle.intel_hex.proofs.Parsing.{in-next}
use Rattle.intel_hex.proofs.Digits.{digit-most, by_digits, digits-write}

-- The bytes from the `k`th on, of `n` in all.
abbrev after : ℕ → List ℕ → ℕ → List ℕ
after n text k = bytes_in (n - k) (drop (2 * k) text)

-- `sum` is of the first `k` bytes where `strays` is 0; else one of them is none.
pub record Summing (n : ℕ) (text : List ℕ) (k sum strays : ℕ) : Type 0 where
  pub within : k ≤ n
  pub most : sum ≤ 272 * k
  pub few : strays ≤ 2 * k
  pub total : strays ≡ 0 → sum + sum_of (after n text k) ≡ sum_of (bytes_in n text)
  pub all : strays ≡ 0 → all_bytes (after n text k) ≡ all_bytes (bytes_in n text)
  pub stray : 0 < strays → all_bytes (bytes_in n text) ≡ false

-- The next byte and those after it.
opened : (n : ℕ) (text : List ℕ) (k : ℕ) → k < n → after n text k ≡ byte_of (get_or text (2 * k) 0) (get_or text (2 * k + 1) 0) ∷ after n text (k + 1)
opened n text k h =
    let m : n - k ≡ suc (n - (k + 1)) = omega arith in
    ap (λ (m : ℕ). bytes_in m (drop (2 * k) text)) m ∙ in-next (n - (k + 1)) text k

-- Two digits write a byte.
written : (a b : ℕ) {high low : ℕ} → high ≡ hex_digit a → low ≡ hex_digit b → high < 16 → low < 16 → 16 * high + low ≡ byte_of a b
written a b {high} {low} p q h l = digits-write a b p q (and_both (ltb high 16) (ltb low 16) (lt-ltb high 16 h) (lt-ltb low 16 l))

-- Two characters that are not both digits write none.
unwritten : (a b : ℕ) {high low : ℕ} → high ≡ hex_digit a → low ≡ hex_digit b → 0 < high / 16 + low / 16 → 256 ≤ byte_of a b
unwritten a b {high} {low} p q h =
    split (ltb (byte_of a b) 256) (λ t. absurd (omega (arith, by_digits a b (ltb-true (byte_of a b) 256 t)))) (λ t. ltb-false (byte_of a b) 256 t)

-- One byte more, by its two digits.
pub summing-more : {n : ℕ} {text : List ℕ} {k sum strays high low : ℕ} → Summing n text k sum strays → k < n →
    high ≡ hex_digit (get_or text (2 * k) 0) → low ≡ hex_digit (get_or text (2 * k + 1) 0) →
    Summing n text (k + 1) (sum + (16 * high + low)) (strays + (high / 16 + low / 16))
unfolding sum_of all_bytes
summing-more {n} {text} {k} {sum} {strays} {high} {low} s h p q =
    let a = get_or text (2 * k) 0 in
    let b = get_or text (2 * k + 1) 0 in
    let o = opened n text k h in
    let first = digit-most a in
    let second = digit-most b in
    record {
      within = omega arith;
      most = omega (arith, s.most, p, q, first, second);
      few = omega (arith, s.few, p, q, first, second);
      total = λ e.
          let w = written a b p q (omega arith) (omega arith) in
          omega (arith, s.total (omega arith), ap sum_of o, w);
      all = λ e.
          let w = written a b p q (omega arith) (omega arith) in
          sym (ap all_bytes o ∙ ap (λ (t : Bool). t && all_bytes (after n text (k + 1))) (lt-ltb (byte_of a b) 256 (omega (arith, w)))) ∙ s.all (omega arith);
      stray = λ e.
          split (eqb strays 0)
          (λ z. sym (s.all (eqb-true strays 0 z)) ∙ ap all_bytes o
          ∙ ap (λ (t : Bool). t && all_bytes (after n text (k + 1))) (le-ltb (byte_of a b) 256 (omega (arith, unwritten a b p q (omega (arith, eqb-true strays 0 z))))))
          (λ z. s.stray (omega (arith, eqb-false strays 0 z)));
    }

-- All of them, and none is no byte.
pub summing-all : {n : ℕ} {text : List ℕ} {k sum strays : ℕ} → Summing n text k sum strays → n ≤ k → strays ≡ 0 →
    (all_bytes (bytes_in n text) ≡ true) × (sum ≡ sum_of (bytes_in n text))
unfolding sum_of all_bytes bytes_in
summing-all {n} {text} {k} {sum} {strays} s h e =
    let m : n - k ≡ 0 = omega arith in
    let z : after n text k ≡ [] = ap (λ (m : ℕ). bytes_in m (drop (2 * k) text)) m in
    (sym (s.all e) ∙ ap all_bytes z, omega (arith, s.total e, ap sum_of z))
