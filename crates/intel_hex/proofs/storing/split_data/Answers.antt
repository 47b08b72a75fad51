-- `hex::storing::split_data` meets its contract: a record is within its text.
use Prim.Native.Nat.{ℕ, ◌+◌, ◌*◌, ◌≤◌}
use mathlib.Core.Path.{◌≡◌}
use mathlib.Core.List.{List}
use mathlib.Core.Bool.{true}
use native.Mathlib.Omega.{arith}
use lib.ListN.{length}
use Rattle.board.specs.Hex.{count_of, has_record}
use Rattle.intel_hex.proofs.Parsing.{record-within}
use Rattle.intel_hex.proofs.Fronts.{record-count}
use Rattle.intel_hex.proofs.storing.split_data.Goals as goal

pub bounds-text-1 : goal.bounds-text-1
bounds-text-1 c = omega (arith, record-within c.args.text.now c.requires)

pub bounds-text-2 : goal.bounds-text-2
bounds-text-2 c = omega (arith, record-within c.args.text.now c.requires)

pub byte_of-n-requires : goal.byte_of-n-requires
byte_of-n-requires c = record-count c.args.text.now c.requires

inside : {n : ℕ} (text : List ℕ) → has_record text ≡ true → n ≡ count_of text → 2 * n + 12 ≤ length text
inside text h e = omega (arith, record-within text h)

pub overflow_mul-result : goal.overflow_mul-result
overflow_mul-result c = record { fits = omega (arith, inside c.args.text.now c.requires c.byte_of-n.ensures) }

pub overflow_add-result : goal.overflow_add-result
overflow_add-result c = record { fits = omega (arith, inside c.args.text.now c.requires c.byte_of-n.ensures) }

pub slice_bounds-result-end : goal.slice_bounds-result-end
slice_bounds-result-end c = omega (arith, inside c.args.text.now c.requires c.byte_of-n.ensures)

pub slice_bounds-result-count-2 : goal.slice_bounds-result-count-2
slice_bounds-result-count-2 c = inside c.args.text.now c.requires c.byte_of-n.ensures

pub slice_bounds-result-start-2 : goal.slice_bounds-result-start-2
slice_bounds-result-start-2 c = inside c.args.text.now c.requires c.byte_of-n.ensures
