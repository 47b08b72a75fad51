-- A recovery to its end: three steps a cell are enough, and steps past its end change nothing.
use Rattle.std.proofs.Common.{◌≡◌, ℕ, zero, suc, ◌+◌, ◌-◌, ◌*◌, ◌<◌, ◌≤◌, Bool, true, false, cond, not, ◌&&◌, ◌||◌, eqb, List, sym, refl, ap, ◌∙◌, true≢false, arith, eqb-true}
use Rattle.board.specs.declared.Call.TheVariants.{RecoveryStart, Step}
use Rattle.board.specs.Board.{Board, Shape, shape_in, lines_of}
use Rattle.board.specs.State.{is_running}
use Rattle.board.specs.Location.{stops, stop_at, undoes}
use Rattle.board.specs.Causes.{causes, cause, not_ready}
use Rattle.board.specs.Effects.{effect}
use Rattle.board.specs.Next.{Taken, taken, next}
use Rattle.board.specs.Sequence.{undo_steps, recovery_steps}
use Rattle.board.specs.Statements.{steps_from}
use Rattle.board.proofs.Theorems.{recovery-ends}
use Rattle.board.proofs.Laws.Taken.{numbered, Clear, first-clear}
use Rattle.predicate.proofs.Bools.{chosen, passed_over, clash, split}
use Rattle.console.specs.Display.{recovered}

-- One step more is taken, from where those before it led.
pub one-step : (n i : ℕ) (b : Board) → i < n → steps_from (n - (i + 1)) (next Step b) ≡ steps_from (n - i) b
unfolding steps_from
one-step n i b h =
    let more : n - i ≡ suc (n - (i + 1)) = omega arith in
    ap (λ (k : ℕ). steps_from k b) (sym more)

-- No step to take.
pub no_step : (n : ℕ) (b : Board) → n ≡ 0 → steps_from n b ≡ b
unfolding steps_from
no_step n b e = ap (λ (k : ℕ). steps_from k b) e

-- Steps after steps.
steps-add : (m n : ℕ) (b : Board) → steps_from (m + n) b ≡ steps_from n (steps_from m b)
unfolding steps_from
steps-add zero n b =
    let same : 0 + n ≡ n = omega arith in ap (λ (k : ℕ). steps_from k b) same
steps-add (suc m) n b =
    let same : suc m + n ≡ suc (m + n) = omega arith in ap (λ (k : ℕ). steps_from k b) same ∙ steps-add m n (next Step b)

-- Where a board runs and none is requested, it is not ready.
waiting : (runs requested other : Bool) → runs ≡ true → requested ≡ false → runs && (not requested || other) ≡ true
waiting true true other p e = absurd (true≢false e)
waiting true false other p e = refl
waiting false requested other p e = absurd (true≢false (sym p))

-- A board that runs with no request takes no step.
step_stays : (b : Board) → is_running b.state.phase ≡ true → b.state.requested ≡ false → next Step b ≡ b
unfolding next cause causes numbered Clear
step_stays b runs none =
    let waits : not_ready b.state ≡ true = waiting (is_running b.state.phase) b.state.requested _ runs none in
    passed_over (taken Step b) _ _
    (split (taken Step b) (λ t. absurd (clash waits (first-clear (causes Step b) refl (eqb-true (cause Step b) 0 t)).1.1.1.0)) (λ t. t))

-- Nor do several.
steps-stay : (n : ℕ) (b : Board) → is_running b.state.phase ≡ true → b.state.requested ≡ false → steps_from n b ≡ b
unfolding steps_from
steps-stay zero b runs none = refl
steps-stay (suc n) b runs none = ap (steps_from n) (step_stays b runs none) ∙ steps-stay n b runs none

-- Memory calls for at most three steps a stop.
undo-most : (σ : Shape) (row : List ℕ) (n : ℕ) → undo_steps σ row n ≤ 3 * n
unfolding undo_steps
undo-most σ row zero = omega arith
undo-most σ row (suc n) = by-test (undoes row (stop_at σ n)) (undo-most σ row n)
  where
    by-test : (t : Bool) → undo_steps σ row n ≤ 3 * n → undo_steps σ row n + cond t 3 1 ≤ 3 * suc n
    by-test true h = omega arith
    by-test false h = omega arith

-- Three steps a cell are a recovery to its end.
pub all-steps : (b : Board) (times : ℕ) → Taken RecoveryStart b → times ≡ 3 * stops (shape_in b.memory) →
    steps_from times (next RecoveryStart b) ≡ recovered b
all-steps b times t e =
    let n = recovery_steps b.memory in
    let ends = recovery-ends b t in
    let few : n ≤ times = omega (arith, undo-most (shape_in b.memory) b.memory (stops (shape_in b.memory))) in
    let rest : times ≡ n + (times - n) = omega arith in
    ap (λ (k : ℕ). steps_from k (next RecoveryStart b)) rest
    ∙ steps-add n (times - n) (next RecoveryStart b)
    ∙ steps-stay (times - n) (steps_from n (next RecoveryStart b)) ends.1 ends.2

-- A recovery's start takes L from memory's header.
pub start-lines : (b : Board) → Taken RecoveryStart b → (next RecoveryStart b).state.lines ≡ lines_of b.memory
unfolding next effect
start-lines b t = ap (λ (x : Board). x.state.lines) (chosen (taken RecoveryStart b) _ _ (ap (λ (n : ℕ). eqb n 0) t))
