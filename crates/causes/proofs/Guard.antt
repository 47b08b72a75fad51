-- What a guard's outcome says of the lines that stand in each guarded call.
use Prim.Native.Nat.{ℕ}
use mathlib.Core.Path.{◌≡◌, refl, ap, ◌∙◌}
use mathlib.Core.Bool.{Bool, true, false, cond}
use Rattle.std.specs.Prelude.{Result, Ok, Err}
use Rattle.std.specs.Result.{IsErrAnd}
use Rattle.std.proofs.lemmas.Result.{err_from_is_err_and}
use Rattle.causes.specs.declared.refusals.Refusal.{Refusal}
use Rattle.causes.specs.Refusals.{number_of, answer_number}

-- No cause has the number of a taken call.
pub no_refusal_is_taken : (refusal : Refusal) → number_of refusal ≡ 0 → ⊥
no_refusal_is_taken Refusal.Limits e = cc
no_refusal_is_taken Refusal.Phase e = cc
no_refusal_is_taken Refusal.State e = cc
no_refusal_is_taken Refusal.Rows e = cc
no_refusal_is_taken Refusal.Header e = cc
no_refusal_is_taken Refusal.Mark e = cc
no_refusal_is_taken Refusal.Worker e = cc
no_refusal_is_taken Refusal.Address e = cc
no_refusal_is_taken Refusal.Lock e = cc
no_refusal_is_taken Refusal.Condition e = cc
no_refusal_is_taken Refusal.Begun e = cc
no_refusal_is_taken Refusal.Holder e = cc
no_refusal_is_taken Refusal.Conflict e = cc
no_refusal_is_taken Refusal.Checkpoint e = cc
no_refusal_is_taken Refusal.Epoch e = cc
no_refusal_is_taken Refusal.File e = cc
no_refusal_is_taken Refusal.Length e = cc
no_refusal_is_taken Refusal.Text e = cc

-- A guard that refused answers what the whole table does: `own` are the lines after it.
pub refused-before : {A : Type 0} (r : Result A Refusal) (barred damaged misfit : Bool) (own : ℕ) (e : Refusal) → IsErrAnd r (λ x. x ≡ e) →
    number_of e ≡ cond barred 2 (cond damaged 3 (cond misfit 4 0)) → answer_number r ≡ cond barred 2 (cond damaged 3 (cond misfit 4 own))
refused-before r barred damaged misfit own e h p =
    let q = err_from_is_err_and r h in
    ap answer_number q.1 ∙ ap number_of q.2 ∙ lines barred damaged misfit p
  where
    lines : (t u v : Bool) → number_of e ≡ cond t 2 (cond u 3 (cond v 4 0)) → number_of e ≡ cond t 2 (cond u 3 (cond v 4 own))
    lines true u v s = s
    lines false true v s = s
    lines false false true s = s
    lines false false false s = absurd (no_refusal_is_taken e s)
