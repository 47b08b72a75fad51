-- `console::printing::print_hex` meets its contract: memory's own text is the front of the text row.
use Rattle.std.proofs.Common.{◌+◌, ◌*◌, length, refl, ◌∙◌, arith, rules}
use Rattle.intel_hex.proofs.Theorems.{hex-holds}
use Rattle.causes.proofs.Guard.{no_refusal_is_taken}
use Rattle.console.proofs.Refused.{none_printed, no_value}
use Rattle.console.proofs.HexPrinted.{refused-hex, written-most, taken-hex}
use Rattle.console.proofs.printing.print_hex.Goals as goal

pub returns-in_err-write : goal.returns-in_err-write
returns-in_err-write c =
    let e = c.from_residual.ensures.1 in record {
      prints = none_printed _ _ _ e ∙ refused-hex c.args.memory.now c.args.row.now _ _ (search rules) c.in_err-write.ensures.performed (no_refusal_is_taken _);
      within = no_value _ _ _ e;
    }

pub overflow_mul-result : goal.overflow_mul-result
overflow_mul-result c =
    -- a memory that is written has at most 4,096 words
    omega (arith, written-most c.args.memory.now c.args.row.now _ _ (search rules) c.in_ok-write.ensures.performed refl)

pub overflow_add-result : goal.overflow_add-result
overflow_add-result c =
    omega (arith, written-most c.args.memory.now c.args.row.now _ _ (search rules) c.in_ok-write.ensures.performed refl)

pub returns : goal.returns
returns c =
    let memory = c.args.memory.now in
    let both = taken-hex memory c.args.row.now _ _ (search rules) c.in_ok-write.ensures.performed (22 * length memory + 12) refl refl (hex-holds.room memory) in
    record { prints = both.0; within = both.1 }
