-- `script::reasons::why_fields` meets its contract. The invariant: the fields left decide as all of them do.
use mathlib.Core.Path.{◌≡◌}
use lib.ListN.{length, drop}
use Rattle.script.specs.Grammar.{fields}
use Rattle.script.specs.Reasons.{fields_reason}
use Rattle.script.proofs.reasons.why_fields.Given as goal

abbrev pub invariant-loop-field : goal.invariant-loop-field
invariant-loop-field l = fields_reason (drop 1 (fields l.line)) ≡ fields_reason (drop (length l.yielded) (drop 1 (fields l.line)))
