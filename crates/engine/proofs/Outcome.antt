-- How every call ends: refused, with all as it was, or taken, with its effect.
use Prim.Native.Nat.{ℕ, ◌+◌}
use mathlib.Core.Path.{◌≡◌, refl, sym, ap, ◌∙◌}
use mathlib.Core.List.{List}
use borrow.Author.Tests.{eq-eqb, ne_eqb}
use Rattle.std.specs.Prelude.{Result, Ok, Err}
use Rattle.std.specs.Result.{IsErrAnd}
use Rattle.std.proofs.lemmas.Result.{err_from_is_err_and}
use Rattle.line.specs.declared.Field.{Field}
use Rattle.line.specs.Cell.{field_of}
use Rattle.board.specs.declared.State.{State}
use Rattle.board.specs.declared.Call.{Call}
use Rattle.board.specs.Board.{Board}
use Rattle.board.specs.State.{dirty_count}
use Rattle.board.specs.Causes.{cause}
use Rattle.board.specs.Effects.{effect}
use Rattle.board.specs.Next.{Outcome, Performed, lent, taken, value_read, value_counted, steps_of, value_of}
use Rattle.causes.specs.declared.refusals.Refusal.{Refusal}
use Rattle.causes.specs.Refusals.{number_of, answer_number}
use Rattle.engine.specs.Answers.{state_left, value_left}
use Rattle.predicate.proofs.Bools.{chosen, passed_over}
use Rattle.board.proofs.Laws.Taken.{taken_next, refused-next}
use Rattle.causes.proofs.Guard.{no_refusal_is_taken}
use Rattle.effects.proofs.Effects.{same-board}

-- An outcome with equal parts.
same_outcome : {n n' v v' : ℕ} {b b' : Board} → n ≡ n' → v ≡ v' → b ≡ b' → ◌≡◌ {A = Outcome} (record { number = n; value = v; board = b }) (record { number = n'; value = v'; board = b' })
same_outcome p q r = λ i. record { number = p i; value = q i; board = r i }

-- A call that a cause refuses is not taken.
not-taken : (k : Call) (b : Board) (e : Refusal) → number_of e ≡ cause k b → cause k b ≡ 0 → ⊥
not-taken k b e number t = no_refusal_is_taken e (number ∙ t)

module _ (k : Call) (s : State) (m c : List ℕ) {v : ℕ} (given : v ≡ value_of k (lent s m c)) where
  -- A refused call answers the number of its cause, and left all as it was.
  pub refused : {A : Type 0} (r : Result A Refusal) (e : Refusal) → IsErrAnd r (λ x. x ≡ e) → number_of e ≡ cause k (lent s m c) →
      Performed k (lent s m c) (answer_number r) v (lent s m c)
  refused r e h number =
      let p = err_from_is_err_and r h in
      same_outcome (ap answer_number p.1 ∙ ap number_of p.2 ∙ number) given (sym (refused-next k (lent s m c) (not-taken k (lent s m c) e number)))

  -- The same of a call that gives the record back where it is taken.
  pub refused-state : (r : Result State Refusal) (e : Refusal) → IsErrAnd r (λ x. x ≡ e) → number_of e ≡ cause k (lent s m c) →
      Performed k (lent s m c) (answer_number r) v (lent (state_left s r) m c)
  refused-state r e h number =
      let p = err_from_is_err_and r h in
      same_outcome refl refl (same-board (ap (state_left s) p.1) refl refl) ∙ refused r e h number

  -- A taken call answers 0, and did its effect.
  pub done : {s' : State} {m' c' : List ℕ} → 0 ≡ cause k (lent s m c) → lent s' m' c' ≡ effect k (lent s m c) → Performed k (lent s m c) 0 v (lent s' m' c')
  done t f = same_outcome t given (f ∙ sym (taken_next k (lent s m c) (sym t)))

  -- The same where the record is made of what the effect left of it.
  pub done-by : {s' s'' : State} {m' c' : List ℕ} → 0 ≡ cause k (lent s m c) → s' ≡ s'' → lent s'' m' c' ≡ effect k (lent s m c) →
      Performed k (lent s m c) 0 v (lent s' m' c')
  done-by t p f = done t (same-board p refl refl ∙ f)

-- A refused read gives 0.
pub reads_nothing : (cell : ℕ) (b : Board) (r : Result ℕ Refusal) (e : Refusal) → IsErrAnd r (λ x. x ≡ e) → number_of e ≡ cause (Call.Read cell) b →
    value_left r ≡ value_of (Call.Read cell) b
unfolding value_of value_read
reads_nothing cell b r e h number =
    ap value_left (err_from_is_err_and r h).1
    ∙ sym (passed_over (taken (Call.Read cell) b) (field_of b.cache cell Field.Record) 0 (ne_eqb (cause (Call.Read cell) b) 0 (not-taken (Call.Read cell) b e number)))

-- A taken read gives the cell's record in the cache.
pub reads-record : {v : ℕ} (cell : ℕ) (b : Board) → 0 ≡ cause (Call.Read cell) b → v ≡ field_of b.cache cell Field.Record → v ≡ value_of (Call.Read cell) b
unfolding value_of value_read
reads-record cell b t f = f ∙ sym (chosen (taken (Call.Read cell) b) (field_of b.cache cell Field.Record) 0 (eq-eqb (cause (Call.Read cell) b) 0 (sym t)))

-- A refused count gives 0.
pub counts-nothing : (b : Board) (r : Result ℕ Refusal) (e : Refusal) → IsErrAnd r (λ x. x ≡ e) → number_of e ≡ cause Call.Count b →
    value_left r ≡ value_of Call.Count b
unfolding value_of value_counted
counts-nothing b r e h number =
    ap value_left (err_from_is_err_and r h).1
    ∙ sym (passed_over (taken Call.Count b) (steps_of b) 0 (ne_eqb (cause Call.Count b) 0 (not-taken Call.Count b e number)))

-- A taken count gives the steps of a checkpoint of `k` dirty lines.
pub counts-steps : {k : ℕ} (b : Board) → 0 ≡ cause Call.Count b → k ≡ dirty_count b.state → k + 3 ≡ value_of Call.Count b
unfolding value_of value_counted
counts-steps b t f = ap (λ (x : ℕ). x + 3) f ∙ sym (chosen (taken Call.Count b) (steps_of b) 0 (eq-eqb (cause Call.Count b) 0 (sym t)))
