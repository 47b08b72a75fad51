-- `script::fields::read_numbers` meets its contract. The invariant: the numbers got with the fields left give what the whole gives.
use Prim.Native.Nat.{◌≤◌}
use mathlib.Core.Path.{◌≡◌}
use lib.ListN.{length, drop}
use Rattle.script.specs.Grammar.{fields}
use Rattle.script.specs.Fields.{numbers_of}
use Rattle.script.proofs.NumberLaws.{numbers_from}
use Rattle.script.proofs.fields.read_numbers.Given as goal

abbrev pub invariant-loop-field : goal.invariant-loop-field
invariant-loop-field l =
    (length l.numbers ≤ 5) × (numbers_of (drop 1 (fields l.line)) ≡ numbers_from l.numbers (drop (length l.yielded) (drop 1 (fields l.line))))
