-- A finished format, with refused calls among its steps, is where the invariant begins to hold.
use Prim.Native.Nat.{ℕ, suc, ◌+◌}
use mathlib.Core.Path.{◌≡◌, refl, sym, ap, subst, ◌∙◌}
use mathlib.Core.Bool.{false, not, ◌||◌, true≢false}
use native.Mathlib.Omega.{arith}
use native.Mathlib.Decide.{dec_le}
use Rattle.board.specs.declared.Phase.{Phase}
use Rattle.board.specs.declared.Phase.TheVariants.{Formatting}
use Rattle.board.specs.declared.Call.{Call}
use Rattle.board.specs.declared.Call.TheVariants.{FormatStart, RecoveryStart, Step}
use Rattle.board.specs.Board.{Board, Shape, shaped, shape_in}
use Rattle.board.specs.State.{is_off, is_formatting, is_running}
use Rattle.board.specs.Next.{Taken, Kind, starts_format, starts_recovery, stepping, writing, counting, other, reading, kind, is_start, is_step, Performed}
use Rattle.board.specs.Location.{undo}
use Rattle.board.specs.Machine.{Machine, recovery_beginning, format_steps}
use Rattle.board.specs.Sequence.{Takes, finished, steps, between, stays, Begins, formatted, recovery_started, opening}
use Rattle.predicate.proofs.Bools.{clash}
use Rattle.board.proofs.Laws.Takes.{takes_none}
use Rattle.board.proofs.Invariant.{Inv}
use Rattle.board.proofs.Laws.Taken.{phase_bars, phase-passed, performed-taken, performed-refused}
use Rattle.board.proofs.Laws.Quiet.{quiet-board}
use Rattle.board.proofs.Format.Board.{InFormat, Fresh, format-begins, erasing-step, format-erases, finishing-step, format-finishes}
use Rattle.board.proofs.Keeps.FormatStep.{fresh-inv}
use Rattle.board.proofs.Keeps.RecoveryStart.{recovery-begins}

-- ---- calls refused in a format

-- In a format the phase doesn't allow a call that needs running.
not-running : (b : Board) → b.state.phase ≡ Formatting → not (is_running b.state.phase) ≡ false → ⊥
not-running b p e = clash (ap (λ (k : Phase). not (is_running k)) p) e

-- Nor one that needs recovering or running.
not_written : (b : Board) → b.state.phase ≡ Formatting → is_off b.state.phase || is_formatting b.state.phase ≡ false → ⊥
not_written b p e = clash (ap (λ (k : Phase). is_off k || is_formatting k) p) e

-- In a format every call but the starts and the step is refused.
pub format-refuses : (k : Call) (b : Board) → b.state.phase ≡ Formatting → is_start (kind k) || is_step (kind k) ≡ false → Taken k b → ⊥
format-refuses k b p o t = barred (kind k) o (phase-passed k b t)
  where
    barred : (d : Kind) → is_start d || is_step d ≡ false → phase_bars d b ≡ false → ⊥
    barred starts_format u e = true≢false u
    barred starts_recovery u e = true≢false u
    barred stepping u e = true≢false u
    barred writing u e = not_written b p e
    barred counting u e = not-running b p e
    barred other u e = not-running b p e
    barred (reading c) u e = not-running b p e

-- ---- a format taken to its end

-- A format ends once the steps left to it are taken, whatever else is called between.
pub format-taken : (σ : Shape) {n : ℕ} {b b' : Board} → Takes n b b' → InFormat σ b → b.state.place + n ≡ σ.lines + 2 → Fresh σ b'
format-taken σ (finished {b = b}) f e = absurd (omega (arith, f.format.within))
format-taken σ (steps {n = n} {b = b} p rest) f e =
    elim (dec_le b.state.place σ.lines) [
      | yes h ↦
          let same = (performed-taken Step b p refl).1 ∙ erasing-step σ b f h in
          let after = format-erases σ b f h in
          format-taken σ rest (subst (λ (d : Board). InFormat σ d) (sym same) after.formats) (ap (λ (d : Board). d.state.place + n) same ∙ omega arith)
      | no h ↦
          let last : b.state.place ≡ σ.lines + 1 = omega (arith, f.format.within) in
          subst (λ (d : Board). Fresh σ d) (sym ((performed-taken Step b p refl).1 ∙ finishing-step σ b f last) ∙ takes_none rest (omega arith)) (format-finishes σ b f last)
    ]
format-taken σ (between {n = n} {number = number} k {b = b} p o rest) f e =
    let same = performed-refused k b p (λ z. format-refuses k b f.phase (o z) (performed-taken k b p z).0) in
    format-taken σ rest (subst (λ (d : Board). InFormat σ d) (sym same) f) (ap (λ (d : Board). d.state.place + suc n) same ∙ e)
format-taken σ (stays {n = n} q rest) f e =
    let same = quiet-board q in
    format-taken σ rest (subst (λ (d : Board). InFormat σ d) (sym same) f) (ap (λ (d : Board). d.state.place + suc n) same ∙ e)

-- A started format and its steps leave a fresh board.
pub format-fresh : (l w : ℕ) (b : Board) {value : ℕ} {d b' : Board} → Performed (FormatStart l w) b 0 value d → Takes (format_steps l) d b' → Fresh (shaped l) b'
format-fresh l w b p takes =
    let (t, same) = performed-taken (FormatStart l w) b p refl in
    let begun = format-begins l w b t in
    format-taken (shaped l) takes (subst (λ (x : Board). InFormat (shaped l) x) (sym same) begun.0)
    (ap (λ (x : Board). x.state.place + format_steps l) same ∙ omega (arith, begun.1))

-- The invariant holds where a history begins.
pub begins-inv : (b : Board) (m : Machine) → Begins b m → Inv (opening b m)
begins-inv b m (formatted l w value d d' b' p takes) = fresh-inv (shaped l) b' false (format-fresh l w d p takes)
begins-inv b m (recovery_started value d b' p) =
    let (t, same) = performed-taken RecoveryStart d p refl in
    subst (λ (x : Board). Inv (opening x (recovery_beginning (shape_in d.memory) (undo d.memory)))) (sym same) (recovery-begins d t)
