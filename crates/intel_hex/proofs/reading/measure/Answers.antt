use Prim.Native.Nat.{ℕ, ◌+◌, ◌*◌, ◌-◌, ◌≤◌, ◌<◌}
use mathlib.Core.Path.{◌≡◌, sym, ap, ◌∙◌}
use mathlib.Core.List.{List}
use native.Mathlib.Omega.{arith}
use lib.ListN.{length, take, drop, length-drop}
use Rattle.std.specs.Prelude.{Some}
use Rattle.intel_hex.specs.declared.reading.Record.{Record}
use Rattle.intel_hex.specs.Storing.{front_of}
use Rattle.intel_hex.proofs.Parsing.{tail}
use Rattle.intel_hex.proofs.Measuring.{measuring-begins, next-within, measuring-more, measuring-ends, measuring-stops}
use Rattle.intel_hex.proofs.reading.measure.Goals as goal

-- The next record is a data record, and ends within the text.
inside : (address : ℕ) {n : ℕ} {found : Record} (rest : List ℕ) → Some found ≡ front_of address rest → found ≡ Record.Data n → 2 * n + 12 ≤ length rest
inside address rest e f = next-within address rest (ap Some (sym f) ∙ e)

pub loop-n-init : goal.loop-n-init
loop-n-init c = measuring-begins

pub returns-in_err-n : goal.returns-in_err-n
returns-in_err-n c = rw c.from_residual.ensures (measuring-stops c.loop-n.invariant c.in_err-n.ensures)

pub overflow_mul-rest : goal.overflow_mul-rest
overflow_mul-rest c = record { fits = omega (arith, inside c.loop-n.address c.loop-n.rest.now c.in_ok-n.ensures c.in-Data.is, c.loop-n.invariant.fits) }

pub overflow_add-rest : goal.overflow_add-rest
overflow_add-rest c = record { fits = omega (arith, inside c.loop-n.address c.loop-n.rest.now c.in_ok-n.ensures c.in-Data.is, c.loop-n.invariant.fits) }

pub slice_bounds-rest-count : goal.slice_bounds-rest-count
slice_bounds-rest-count c = inside c.loop-n.address c.loop-n.rest.now c.in_ok-n.ensures c.in-Data.is

pub slice_bounds-rest-start : goal.slice_bounds-rest-start
slice_bounds-rest-start c = inside c.loop-n.address c.loop-n.rest.now c.in_ok-n.ensures c.in-Data.is

pub overflow_add-address : goal.overflow_add-address
overflow_add-address c = record { fits = omega (arith, inside c.loop-n.address c.loop-n.rest.now c.in_ok-n.ensures c.in-Data.is, c.loop-n.invariant.fits) }

-- What is left behind it is shorter.
shorter : (n : ℕ) (rest : List ℕ) → 2 * n + 12 ≤ length rest → length (take (length rest - (2 * n + 12)) (drop (2 * n + 12) rest)) < length rest
shorter n rest h = omega (arith, ap length (tail (2 * n + 12) rest), length-drop (2 * n + 12) rest)

pub loop-n-smaller : goal.loop-n-smaller
loop-n-smaller c = shorter c.in-Data.n c.loop-n.rest.now (inside c.loop-n.address c.loop-n.rest.now c.in_ok-n.ensures c.in-Data.is)

pub loop-n-preserved : goal.loop-n-preserved
loop-n-preserved c = measuring-more c.loop-n.invariant (ap Some (sym c.in-Data.is) ∙ c.in_ok-n.ensures) (tail (2 * c.in-Data.n + 12) c.loop-n.rest.now)

pub returns : goal.returns
returns c = measuring-ends c.loop-n.invariant (ap Some (sym c.in_default.is) ∙ c.in_ok-n.ensures)
