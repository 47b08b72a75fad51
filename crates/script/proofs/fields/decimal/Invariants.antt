-- `script::fields::decimal` meets its contract. The invariant: what is left of the field, read after `value`, is what the whole field is.
use Prim.Native.Nat.{◌-◌, ◌^◌, ◌≤◌}
use mathlib.Core.Path.{◌≡◌}
use lib.ListN.{drop}
use Rattle.script.specs.Fields.{number_of}
use Rattle.script.proofs.NumberLaws.{number_from}
use Rattle.script.proofs.fields.decimal.Given as goal

abbrev pub invariant-loop-byte : goal.invariant-loop-byte
invariant-loop-byte l = (l.value ≤ 2 ^ 64 - 1) × (number_of l.field ≡ number_from l.value (drop l.byte-index l.field))
