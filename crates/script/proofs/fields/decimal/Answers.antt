use Prim.Native.Nat.{ℕ, ◌+◌, ◌*◌, ◌-◌, ◌≤◌}
use mathlib.Core.Path.{◌≡◌}
use lib.Dec.{leb}
use mathlib.Core.Path.{sym, ap, ◌∙◌}
use native.Mathlib.Omega.{arith}
use lib.ListN.{length, drop, get_or}
use borrow.Author.Tests.{leb-true, eqb-true, eqb-false}
use Rattle.predicate.proofs.Bools.{and_left, and_right}
use Rattle.script.proofs.NumberLaws.{number_from, number-starts, number-empty, number-ends, number-goes-on, number-breaks, number-over, number_past}
use Rattle.script.proofs.fields.decimal.Goals as goal

pub returns-then-is_empty : goal.returns-then-is_empty
returns-then-is_empty c =
    let f = c.args.field.now in
    sym (number-empty f (eqb-true (length f) 0 (sym c.if-is_empty.ensures)))

pub loop-byte-init : goal.loop-byte-init
loop-byte-init c =
    let f = c.args.field.now in
    let some : (length f ≡ 0 → ⊥) = eqb-false (length f) 0 (sym c.if-is_empty.ensures) in
    (omega arith, number-starts f (omega arith))

pub returns-in_err-checked_mul : goal.returns-in_err-checked_mul
returns-in_err-checked_mul c =
    let f = c.args.field.now in
    let l = c.loop-byte in
    c.from_residual.ensures ∙ sym (l.invariant.1 ∙ number-over l.value f l.byte-index (omega arith) (omega (arith, c.in_err-checked_mul.ensures)))

pub returns-in_err-digit : goal.returns-in_err-digit
returns-in_err-digit c =
    let f = c.args.field.now in
    let l = c.loop-byte in
    c.from_residual-in_err-digit.ensures
    ∙ sym (l.invariant.1 ∙ number-breaks l.value f l.byte-index (omega arith) c.in_err-digit.ensures)

pub returns-in_err-value : goal.returns-in_err-value
returns-in_err-value c =
    let f = c.args.field.now in
    let l = c.loop-byte in
    let digit = c.in_ok-digit.ensures in
    let b = get_or f l.byte-index 0 in
    let low : 48 ≤ b = leb-true 48 b (and_left (leb 48 b) (leb b 57) digit.0) in
    let high : b ≤ 57 = leb-true b 57 (and_right (leb 48 b) (leb b 57) digit.0) in
    c.from_residual-in_err-value.ensures
    ∙ sym (l.invariant.1 ∙ number-goes-on l.value f l.byte-index (omega arith) low high
    ∙ number_past (10 * l.value + (b - 48)) (drop (l.byte-index + 1) f) (omega (arith, digit.1, c.in_ok-checked_mul.ensures, c.in_err-value.ensures)))

pub loop-byte-preserved : goal.loop-byte-preserved
loop-byte-preserved c =
    let f = c.args.field.now in
    let l = c.loop-byte in
    let digit = c.in_ok-digit.ensures in
    let b = get_or f l.byte-index 0 in
    let low : 48 ≤ b = leb-true 48 b (and_left (leb 48 b) (leb b 57) digit.0) in
    let high : b ≤ 57 = leb-true b 57 (and_right (leb 48 b) (leb b 57) digit.0) in
    let same : 10 * l.value + (b - 48) ≡ c.in_ok-value.value = omega (arith, digit.1, c.in_ok-checked_mul.ensures, c.in_ok-value.ensures) in (
      omega (arith, c.in_ok-value.ensures),
      l.invariant.1 ∙ number-goes-on l.value f l.byte-index (omega arith) low high
          ∙ ap (λ (n : ℕ). number_from n (drop (l.byte-index + 1) f)) same,
    )

pub returns : goal.returns
returns c =
    let l = c.loop-byte in sym (l.invariant.1 ∙ number-ends l.value c.args.field.now l.byte-index (omega arith) l.invariant.0)
