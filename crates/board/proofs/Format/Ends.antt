-- Each format that is started ends in L + 2 steps, each of them taken, on any board.
use Prim.Native.Nat.{ℕ, zero, suc, ◌+◌, ◌≤◌}
use mathlib.Core.Path.{◌≡◌, refl, sym, ap, subst, ◌∙◌}
use mathlib.Core.Bool.{false}
use native.Mathlib.Omega.{arith}
use native.Mathlib.Decide.{dec_le}
use borrow.Author.Tests.{le-ltb}
use Rattle.board.specs.declared.Phase.{Phase}
use Rattle.board.specs.declared.Call.TheVariants.{FormatStart, Step}
use Rattle.bitset.specs.Words.{empty}
use Rattle.board.specs.Board.{Board, Shape, shaped}
use Rattle.board.specs.State.{all_free, is_off, is_running}
use Rattle.board.specs.Causes.{place_past}
use Rattle.board.specs.Effects.{effect}
use Rattle.board.specs.Machine.{format_steps}
use Rattle.board.specs.Statements.{steps_from, AllTaken, EndsIn, FormatEnds}
use Rattle.board.proofs.Laws.Taken.{taken_next, same_lines}
use Rattle.board.proofs.Laws.Idle.{idle-step-taken, ends_more}
use Rattle.board.proofs.Format.Board.{InFormat, format-begins, erasing, erasing-step, format-erases, finishing, finishing-step}
use Rattle.board.specs.Next.{Taken}

-- A format from its start on, undisturbed: no line is dirty and all workers are free.
record Alone (σ : Shape) (b : Board) : Type 0 where
  formats : InFormat σ b
  clean : b.state.dirty ≡ empty
  free : b.state.worker ≡ all_free

-- A taken format's start leaves it so.
alone-begins : (l w : ℕ) (b : Board) → Taken (FormatStart l w) b → Alone (shaped l) (effect (FormatStart l w) b)
unfolding effect
alone-begins l w b t = record { formats = (format-begins l w b t).0; clean = refl; free = refl }

-- So does a step that is not the last.
alone-erases : (σ : Shape) (b : Board) → Alone σ b → b.state.place ≤ σ.lines → Alone σ (erasing b)
alone-erases σ b a h = record { formats = (format-erases σ b a.formats h).formats; clean = a.clean; free = a.free }

-- Its step is taken.
alone-taken : (σ : Shape) (b : Board) → Alone σ b → Taken Step b
alone-taken σ b a =
    let f = a.formats.format in
    let p = a.formats.phase in
    idle-step-taken σ b a.formats.sizes f.own a.clean a.free (ap is_off p) (ap is_running p)
    (subst (λ (k : Phase). place_past k b.state ≡ false) (sym p) (le-ltb (b.state.lines + 1) b.state.place (omega (arith, f.within, same_lines f.own.shape))))

-- A format so left ends in the steps left to it.
alone-ends : (σ : Shape) (n : ℕ) (b : Board) → Alone σ b → b.state.place + n ≡ σ.lines + 2 → EndsIn n b
unfolding steps_from AllTaken
alone-ends σ zero b a e = absurd (omega (arith, a.formats.format.within))
alone-ends σ (suc n) b a e =
    let t = alone-taken σ b a in
    elim (dec_le b.state.place σ.lines) [
      | yes h ↦ ends_more n b (erasing b) t (taken_next Step b t ∙ erasing-step σ b a.formats h) (alone-ends σ n (erasing b) (alone-erases σ b a h) (omega arith))
      | no h ↦
          let last : b.state.place ≡ σ.lines + 1 = omega (arith, a.formats.format.within) in
          let over : 0 ≡ n = omega arith in
          ends_more n b (finishing b) t (taken_next Step b t ∙ finishing-step σ b a.formats last)
          (subst (λ (k : ℕ). EndsIn k (finishing b)) over (tt, refl, a.formats.format.request))
    ]

-- Each format that is started ends in L + 2 steps.
pub format-ends : FormatEnds
format-ends l w b t =
    subst (λ (x : Board). EndsIn (format_steps l) x) (sym (taken_next (FormatStart l w) b t))
    (alone-ends (shaped l) (format_steps l) (effect (FormatStart l w) b) (alone-begins l w b t) (omega (arith, (format-begins l w b t).1)))
