-- Parts of a running board's invariant that more than one step leaves.
use Prim.Native.Nat.{ℕ}
use mathlib.Core.Path.{◌≡◌, sym, subst, ◌∙◌}
use mathlib.Core.List.{List}
use mathlib.Core.Bool.{false}
use native.Mathlib.Omega.{arith}
use Rattle.predicate.proofs.Bools.{passed_over, clash}
use Rattle.bitset.specs.Words.{empty}
use Rattle.board.specs.declared.State.{State}
use Rattle.board.specs.declared.Condition.{Condition}
use Rattle.board.specs.Board.{Board, Shape, epoch_of}
use Rattle.board.specs.Location.{Location, Has}
use Rattle.board.specs.State.{all_free}
use Rattle.board.specs.Checkpoint.{progress}
use Rattle.board.specs.Machine.{Unfinished, none, Machine}
use Rattle.board.proofs.Invariant.{WorkerInv, Touches, WorkersPart, Dirty, SameValues, early, CheckpointPart}
use Rattle.board.proofs.Laws.View.{view, logs}
use Rattle.board.proofs.Laws.Workers.{free-condition}
use Rattle.board.proofs.Laws.Dirty.{dirty-none}
use Rattle.board.proofs.Checkpoint.Acts.{acts-length}

-- Workers that are all free have no unfinished update.
pub free_part : {σ : Shape} {w : ℕ} (s : State) (cache : List ℕ) {unfinished : ℕ → Unfinished} → s.worker ≡ all_free →
    ((n : ℕ) → unfinished n ≡ none) → WorkersPart σ w s.worker cache unfinished
free_part {σ} s cache {unfinished} free idle =
    record {
      each = λ n h. subst (λ (k : Condition). WorkerInv σ cache k (unfinished n)) (sym (free-condition s n free)) (idle n);
      apart = λ n n' p h h' t t'. absurd (subst (λ (k : Condition). Touches k p) (free-condition s n free) t);
    }

-- Where no request stands, nothing is marked or logged in this epoch and memory has every value, a checkpoint is to come with no line to write.
pub unbegun-part : {σ : Shape} (b : Board) (m : Machine) → m.requested ≡ false → b.state.requested ≡ false → b.state.dirty ≡ empty →
    ((u : Location) → m.marked u ≡ false) → epoch_of b.cache ≡ epoch_of b.memory →
    ((u : Location) → Has σ u → logs u (epoch_of b.memory) (view b.cache u) ≡ false) → SameValues σ b.memory b.cache → CheckpointPart σ b m
unbegun-part {σ} b m quiet off clean unmarked epochs unlogged same =
    record {
      request = quiet ∙ sym off;
      dirty = subst (λ (words : List ℕ). Dirty σ words m.marked) (sym clean) (dirty-none σ m.marked unmarked);
      steps = λ e. absurd (clash e off);
      stage = early (record {
        epochs = epochs;
        marks = λ u h. unmarked u ∙ sym (unlogged u h);
        clean = λ u h o. same u h;
        written = λ u h o. same u h;
        left = omega (arith, acts-length b, still);
        waiting = λ h. absurd (omega (arith, still));
        room = λ e. absurd (clash e off);
      });
    }
  where
    still : progress b.state ≡ 0
    still = passed_over b.state.requested b.state.place 0 off
