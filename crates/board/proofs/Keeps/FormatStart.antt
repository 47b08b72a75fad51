-- A format's start keeps the invariant, in any phase and after a cut.
use Prim.Native.Nat.{ℕ}
use mathlib.Core.Path.{◌≡◌, refl, sym, ap, subst}
use mathlib.Core.List.{List}
use mathlib.Core.Bool.{false}
use native.Mathlib.Omega.{arith}
use Rattle.board.specs.declared.Call.TheVariants.{FormatStart}
use Rattle.board.specs.Board.{Shape, shaped}
use Rattle.board.specs.Effects.{effect}
use Rattle.board.specs.Machine.{feed}
use Rattle.board.specs.Sequence.{Run}
use Rattle.board.proofs.Invariant.{Kept, Lengths, Inv}
use Rattle.board.proofs.Laws.Taken.{after_taken}
use Rattle.board.proofs.Checkpoint.Run.{Preserved, quietly}
use Rattle.board.proofs.Format.Board.{start-sizes, format-begins}
use Rattle.board.specs.Next.{Taken}

-- Rows have lengths for one shape only.
pub shape_same : (σ τ : Shape) (memory cache : List ℕ) → Lengths σ memory cache → Lengths τ memory cache → τ ≡ σ
shape_same σ τ memory cache z y = ap shaped (let e : τ.lines ≡ σ.lines = omega (arith, z.memory.size, y.memory.size) in e)

module _ (r : Run) (l w : ℕ) (inv : Inv r) (t : Taken (FormatStart l w) r.board) where
  -- A format's start finds the machine's shape.
  same : r.machine.shape ≡ shaped l
  same = shape_same (shaped l) r.machine.shape r.board.memory r.board.cache (start-sizes l w r.board t) inv.sizes

  -- A format's start keeps the invariant.
  keeps-format-start : Inv (after_taken (FormatStart l w) r)
  unfolding effect feed
  keeps-format-start =
      let begun = (format-begins l w r.board t).0 in
      record {
        sizes = begun.sizes;
        kept = λ e. subst (λ (σ : Shape). Kept σ r.machine.checkpointed r.board.memory) same (inv.kept e);
        lost = inv.lost;
        phase = λ d. (begun.format, record { formatting = refl; request = refl; steps = refl; erased = λ h. absurd (omega arith) });
      }

  -- It changes nothing of the last checkpoint.
  pub carried-format-start : Preserved false r (after_taken (FormatStart l w) r)
  unfolding effect feed
  carried-format-start = quietly keeps-format-start refl (sym same) (λ c. refl)
