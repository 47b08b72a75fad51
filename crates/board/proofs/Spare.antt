-- Words 6 and 7 of the cell lines: nothing but a format's steps changes them.
use Prim.Native.Nat.{ℕ, ◌+◌, ◌/◌, ◌≤◌}
use mathlib.Core.Path.{◌≡◌, refl, sym, ap, subst, ◌∙◌}
use mathlib.Core.Logic.{inl, inr}
use mathlib.Core.Bool.{Bool, true, false, cond, ◌&&◌, true≢false}
use lib.Dec.{eqb}
use lib.ListN.{get_or}
use Rattle.line.specs.Line.{line_start}
use Rattle.board.specs.declared.Phase.{Phase}
use Rattle.board.specs.declared.Phase.TheVariants.{Off, Formatting, Recovering, Running}
use Rattle.board.specs.Board.{Shape, cell_lines}
use Rattle.board.specs.State.{is_formatting}
use Rattle.board.specs.Sequence.{Run, History, begun, further}
use Rattle.board.specs.Statements.{Completes, format_step_in, Spare, SameSpare, as_begun, SpareWords, FormatSpare}
use Rattle.board.proofs.Invariant.{Inv}
use Rattle.board.proofs.Laws.Reading.{in-phase}
use Rattle.board.proofs.Keeps.Every.{carried, history-inv}
use Rattle.board.proofs.Format.Begins.{format-fresh}

-- While recovering or running the cache has memory's.
spare-cache : (r : Run) → Inv r → r.crashed ≡ false → is_formatting r.board.state.phase ≡ false →
    SameSpare r.machine.shape r.board.memory r.board.cache
spare-cache r inv d f = go r.board.state.phase refl
  where
    go : (p : Phase) → r.board.state.phase ≡ p → SameSpare r.machine.shape r.board.memory r.board.cache
    go Off e = absurd (in-phase r inv d Off e)
    go Formatting e = absurd (true≢false (sym (ap is_formatting e) ∙ f))
    go Recovering e = (in-phase r inv d Recovering e).0.rows.spare
    go Running e = (in-phase r inv d Running e).0.rows.spare

-- What happens leaves those in memory, but that a format's step makes those of its line 0.
spare-next : (format : Bool) (r r' : Run) (given : ℕ → ℕ) → Completes format r r' → Spare r.machine.shape given r.board.memory →
    Spare r'.machine.shape (λ i. cond (format && eqb (i / 8) r.board.state.place) 0 (given i)) r'.board.memory
spare-next format r r' given done s i k a b c d = go format done
  where
    inside : r'.machine.shape ≡ r.machine.shape → i ≤ cell_lines r.machine.shape
    inside e = subst (λ (σ : Shape). i ≤ cell_lines σ) e b

    old : r'.machine.shape ≡ r.machine.shape →
        cond (eqb ((line_start i + k) / 8) r.board.state.place) 0 (get_or r.board.memory (line_start i + k) 0) ≡ cond (eqb ((line_start i + k) / 8) r.board.state.place) 0 (given (line_start i + k))
    old e = ap (cond (eqb ((line_start i + k) / 8) r.board.state.place) 0) (s i k a (inside e) c d)

    go : (f : Bool) → Completes f r r' →
        get_or r'.board.memory (line_start i + k) 0 ≡ cond (f && eqb ((line_start i + k) / 8) r.board.state.place) 0 (given (line_start i + k))
    go false (inl u) = u.board.spare i k a (inside u.board.shape) c d ∙ s i k a (inside u.board.shape) c d
    go false (inr u) = u.board.spare i k a (inside u.board.shape) c d ∙ s i k a (inside u.board.shape) c d
    go true (inl u) = u.spare i k a (inside u.shape) c d ∙ old u.shape
    go true (inr u) = u.spare i k a (inside u.shape) c d ∙ old u.shape

-- Over a whole history.
spare-memory : (r : Run) (h : History r) → Spare r.machine.shape (as_begun h) r.board.memory
unfolding as_begun
spare-memory r (begun h) = λ i k a b c d. refl
spare-memory r (further {r = q} h e) = spare-next (format_step_in e) q r (as_begun h) (carried (history-inv q h) e).completion (spare-memory q h)

pub spare-words : SpareWords
spare-words r h = (spare-memory r h, λ d f i k a b p q. spare-cache r (history-inv r h) d f i k a b p q ∙ spare-memory r h i k a b p q)

-- A finished format leaves zeros.
pub format-spare : FormatSpare
format-spare l w value b d b' p takes =
    let fresh = format-fresh l w b p takes in
    (fresh.spare, λ i k a c q e. fresh.running.rows.spare i k a c q e ∙ fresh.spare i k a c q e)
