-- Where all workers are free, a step of a format or recovery is taken.
use Prim.Native.Nat.{ℕ, suc}
use mathlib.Core.Path.{◌≡◌, sym, ap, subst}
use mathlib.Core.Bool.{false, not, ◌&&◌, ◌||◌}
use lib.Dec.{leb}
use Rattle.bitset.specs.Words.{empty}
use Rattle.board.specs.declared.Call.TheVariants.{Step}
use Rattle.board.specs.Board.{Board, Shape, cells}
use Rattle.board.specs.Checkpoint.{acts, stores_epoch}
use Rattle.board.specs.State.{all_free, is_off, is_running, quiescent, updates, any_worker}
use Rattle.board.specs.Causes.{causes, place_past, bad_rows, checkpointing, epoch_spent}
use Rattle.board.specs.Next.{next, Taken}
use Rattle.board.specs.Statements.{steps_from, AllTaken, EndsIn}
use Rattle.predicate.proofs.Bools.{and-off}
use Rattle.board.proofs.Invariant.{Lengths, RecordInv}
use Rattle.board.proofs.Laws.Taken.{Clear, take, rows-fine, record-fine}
use Rattle.board.proofs.Laws.Dirty.{empty-fine}
use Rattle.board.proofs.Laws.Workers.{free-condition}

-- On a board that is on and not running, with no line dirty and all workers free, a step is taken while its place is within bounds.
pub idle-step-taken : (σ : Shape) (b : Board) → Lengths σ b.memory b.cache → RecordInv σ b.state → b.state.dirty ≡ empty →
    b.state.worker ≡ all_free → is_off b.state.phase ≡ false → is_running b.state.phase ≡ false →
    place_past b.state.phase b.state ≡ false → Taken Step b
unfolding Clear causes
idle-step-taken σ b z own clean free on idle place =
    let s = b.state in
    let none : checkpointing s ≡ false = and-off (is_running s.phase) s.requested idle in
    take Step b (
      on,
      (
        record-fine σ s own (empty-fine σ s.dirty clean) place (λ w h. ap (updates (leb (cells σ))) (free-condition s w free)),
        (
          subst (λ (τ : Shape). bad_rows τ.lines b ≡ false) (sym own.shape) (rows-fine σ b z),
          (
            and-off (is_running s.phase) (not s.requested || any_worker s (λ condition. not (quiescent condition))) idle,
            (
              and-off (checkpointing s && stores_epoch (acts b)) (epoch_spent b) (and-off (checkpointing s) (stores_epoch (acts b)) none),
              tt,
            ),
          ),
        ),
      ),
    )

-- One more step: it is taken, and the rest ends.
pub ends_more : (n : ℕ) (b d : Board) → Taken Step b → next Step b ≡ d → EndsIn n d → EndsIn (suc n) b
unfolding steps_from AllTaken
ends_more n b d t e h =
    let rest = subst (λ (x : Board). EndsIn n x) (sym e) h in
    ((t, rest.0), rest.1, rest.2)
