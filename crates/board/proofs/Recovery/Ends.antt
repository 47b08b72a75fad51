-- Each recovery that is started ends in the steps that its memory calls for, every one of them taken. A taken start has the invariant on any board, so nothing is asked of the board before it.
use Prim.Native.Nat.{ℕ, zero, suc}
use mathlib.Core.Path.{◌≡◌, refl, sym, ap, subst, ◌∙◌}
use mathlib.Core.Logic.{⊎_elim}
use mathlib.Core.Bool.{true, false}
use native.Mathlib.Omega.{arith}
use borrow.Author.Tests.{lt-leb}
use Rattle.board.specs.declared.Phase.{Phase}
use Rattle.board.specs.declared.Phase.TheVariants.{Recovering, Running}
use Rattle.board.specs.declared.Call.TheVariants.{RecoveryStart, Step}
use Rattle.board.specs.Board.{shape_of, shape_in}
use Rattle.board.specs.Location.{stops, undo}
use Rattle.board.specs.State.{is_off, is_running}
use Rattle.board.specs.Causes.{place_past}
use Rattle.board.specs.Effects.{effect}
use Rattle.board.specs.Next.{Taken}
use Rattle.board.specs.Machine.{Machine, recovery_beginning}
use Rattle.board.specs.Sequence.{Run, opening, recovery_steps}
use Rattle.board.specs.Statements.{steps_from, AllTaken, EndsIn, RecoveryEnds}
use Rattle.board.proofs.Invariant.{Inv}
use Rattle.predicate.proofs.Bools.{and-off}
use Rattle.board.proofs.Laws.Reading.{in-phase}
use Rattle.board.proofs.Laws.Taken.{taken_next, after_taken}
use Rattle.board.proofs.Laws.Idle.{idle-step-taken, ends_more}
use Rattle.board.proofs.Recovery.Count.{remaining, remaining-start, remaining-positive, remaining-step}
use Rattle.board.proofs.Recovery.Finishes.{place-within, phase-start, step_counts}
use Rattle.board.proofs.Keeps.RecoveryStart.{recovery-begins}
use Rattle.board.proofs.Keeps.RecoveryStep.{carried-recovery-step}

-- A recovery's step is taken.
pub step-taken : (r : Run) → Inv r → r.crashed ≡ false → r.board.state.phase ≡ Recovering → Taken Step r.board
step-taken r i d p =
    let b = r.board in
    let u = (in-phase r i d Recovering p).0.underway in
    idle-step-taken r.machine.shape b i.sizes u.own u.clean u.free (ap is_off p) (ap is_running p)
    (subst (λ (q : Phase). place_past q b.state ≡ false) (sym p) (lt-leb (stops (shape_of b.state)) b.state.place (place-within r i d p)))

-- A recovery with `n` steps left ends in `n` steps.
ends-in : (n : ℕ) (r : Run) → Inv r → r.crashed ≡ false → r.board.state.phase ≡ Recovering → remaining r.board ≡ n → EndsIn n r.board
unfolding AllTaken steps_from
ends-in zero r i d p q = absurd (omega (arith, remaining-positive r.board (place-within r i d p)))
ends-in (suc n) r i d p q =
    ends_more n r.board (effect Step r.board) t (taken_next Step r.board t)
    (⊎_elim
    (λ x. ends-in n (after_taken Step r) next uncut x.0 (omega (arith, x.1)))
    (λ x. let z : 0 ≡ n = omega (arith, x.1) in subst (λ (j : ℕ). EndsIn j (effect Step r.board)) z (tt, ap is_running x.0, request x.0))
    (remaining-step r.board p (place-within r i d p)))
  where
    t : Taken Step r.board
    t = step-taken r i d p

    next : Inv (after_taken Step r)
    next = (carried-recovery-step r i d p).keeps

    uncut : (after_taken Step r).crashed ≡ false
    uncut = and-off r.crashed true d

    -- At the end no request stands: none stands in the machine.
    request : (effect Step r.board).state.phase ≡ Running → (effect Step r.board).state.requested ≡ false
    request e =
        let m = (in-phase r i d Recovering p).1 in
        sym (in-phase (after_taken Step r) next uncut Running e).0.checkpoint.request ∙ ap (λ (x : Machine). x.requested) (step_counts r.machine m.request m.formatting) ∙ m.request

-- Each recovery that is started ends in the steps that its memory calls for.
pub recovery-ends : RecoveryEnds
recovery-ends b t =
    subst (EndsIn (recovery_steps b.memory)) (sym (taken_next RecoveryStart b t))
    (ends-in (recovery_steps b.memory) (opening (effect RecoveryStart b) (recovery_beginning (shape_in b.memory) (undo b.memory))) (recovery-begins b t) refl (phase-start b) (remaining-start b))
