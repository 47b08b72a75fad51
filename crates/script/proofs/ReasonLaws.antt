-- What is true of the reasons why a line is answered `?`, on what is left of a line or a field from a place on.
use Prim.Native.Nat.{ℕ, ◌≤◌, ◌<◌}
use mathlib.Core.Path.{◌≡◌, refl, sym, ap, ◌∙◌}
use mathlib.Core.List.{List, [], ◌∷◌}
use mathlib.Core.Bool.{true, false, cond}
use native.Mathlib.Omega.{arith}
use lib.Dec.{ltb}
use lib.ListN.{length, take, drop, drop_of_length-le}
use lib.Seq.{length-take-le, take_all}
use borrow.Author.Tests.{lt-ltb, ltb-true, ltb-false}
use Rattle.predicate.proofs.Bools.{split, chosen, passed_over}
use Rattle.script.specs.declared.Line.{Line}
use Rattle.script.specs.declared.Program.{Program}
use Rattle.script.specs.declared.Reason.{Reason}
use Rattle.script.specs.declared.Reason.TheVariants.{Long, Count, Unfit}
use Rattle.script.specs.Grammar.{is_number}
use Rattle.script.specs.Reasons.{stands_in, is_unknown, field_reason, fields_reason, unknown_reason, reason}

-- ---- a byte in a line

-- Past a line's end no byte stands.
pub has_end_lem : (byte : ℕ) (s : List ℕ) (i : ℕ) → length s ≤ i → stands_in byte (drop i s) ≡ false
unfolding stands_in
has_end_lem byte s i h = ap (stands_in byte) (drop_of_length-le s h)

-- ---- fields

-- Where no field is left, all were numbers.
pub fields-end : fields_reason [] ≡ Count
unfolding fields_reason
fields-end = refl

-- The first field that is no number decides.
pub fields-break : (f : List ℕ) (fs : List (List ℕ)) → is_number f ≡ false → fields_reason (f ∷ fs) ≡ field_reason f
unfolding fields_reason
fields-break f fs e = passed_over (is_number f) (fields_reason fs) (field_reason f) e

pub fields-go-on : (f : List ℕ) (fs : List (List ℕ)) → is_number f ≡ true → fields_reason (f ∷ fs) ≡ fields_reason fs
unfolding fields_reason
fields-go-on f fs e = chosen (is_number f) (fields_reason fs) (field_reason f) e

-- ---- the line

-- A line over 79 bytes.
unknown-long : (program : Program) (s : List ℕ) → 79 < length s → unknown_reason program s ≡ Long
unfolding unknown_reason
unknown-long program s h = chosen (ltb 79 (length s)) Long _ (lt-ltb 79 (length s) h)

-- The first 80 bytes of a line have its reason.
pub reason_kept : (program : Program) (s : List ℕ) (asks : Line) → reason program (take 80 s) asks ≡ reason program s asks
reason_kept program s asks =
    ap (λ (r : Reason). cond (is_unknown asks) r Unfit)
    (split (ltb 79 (length s))
    (λ t. let long : 79 < length s = ltb-true 79 (length s) t in
    unknown-long program (take 80 s) (omega (arith, length-take-le 80 s (omega arith))) ∙ sym (unknown-long program s long))
    (λ t. ap (unknown_reason program) (take_all 80 s (omega (arith, ltb-false 79 (length s) t)))))
