-- The stages of a checkpoint after a line's write-back, by a call or by a step.
use Prim.Native.Nat.{ℕ, ◌+◌, ◌≤◌, ◌<◌}
use mathlib.Core.Path.{◌≡◌, refl, sym, ap, subst, ◌∙◌}
use mathlib.Core.List.{List, Memᴰ}
use mathlib.Core.Bool.{true, false}
use lib.ListN.{length}
use Rattle.board.specs.Board.{Board, Shape, epoch_of}
use Rattle.board.specs.Location.{Location, Has, line_for}
use Rattle.board.specs.State.{placed}
use Rattle.board.specs.Checkpoint.{Act, write_line, progress, acts}
use Rattle.board.specs.Effects.{written_back}
use Rattle.board.specs.Machine.{Machine, marked_count}
use Rattle.board.specs.Statements.{SameSpare}
use Rattle.board.proofs.Laws.View.{view, logs}
use Rattle.board.proofs.Invariant.{AllQuiescent, Lengths, SameSizes, Undoes, SameValues, Early, Gap, Late, Stage, RunningInv}
use Rattle.board.proofs.Laws.Rows.{epoch-back, own_same, sizes-same}
use Rattle.board.proofs.Checkpoint.Memory.{value-back}

-- The board with another memory and another place.
abbrev pub moved : Board → List ℕ → ℕ → Board
moved b memory place =
    record { state = placed b.state place b.state.undo; memory = memory; cache = b.cache }

-- The machine with other checkpointed values and another number of steps.
abbrev pub remade : Machine → (Location → ℕ) → ℕ → Machine
remade m xs steps =
    record { current = m.current; checkpointed = xs; marked = m.marked; unfinished = m.unfinished; requested = m.requested; steps = steps; formatting = m.formatting; shape = m.shape }

-- At that place these acts are left, whatever memory holds.
abbrev pub Leaves : Board → ℕ → List Act → Type 0
Leaves b place left = (memory : List ℕ) → acts (moved b memory place) ≡ left

-- At its own place all that was.
pub leaves-same : (b : Board) → Leaves b b.state.place (acts b)
unfolding acts
leaves-same b memory = refl

-- A running board whose memory, place and checkpointed values change.
pub running-moved : {σ : Shape} {b : Board} {m : Machine} → RunningInv σ b m → (memory : List ℕ) (place : ℕ) (xs : Location → ℕ) (steps : ℕ) →
    SameSizes b.memory memory → SameSpare σ memory b.cache →
    (b.state.requested ≡ true → steps + length (acts (moved b memory place)) ≡ marked_count m + 3) → Undoes σ (epoch_of memory) xs b.cache →
    Stage σ (moved b memory place) (remade m xs steps) → RunningInv σ (moved b memory place) (remade m xs steps)
running-moved {b = b} v memory place xs steps sizes spare agree undoes stage =
    record {
      own = v.own;
      rows = record { sizes = own_same sizes (sizes-same b.cache) v.rows.sizes; header = v.rows.header; undoes = undoes; current = v.rows.current; spare = spare };
      workers = v.workers;
      checkpoint = record { request = v.checkpoint.request; dirty = v.checkpoint.dirty; steps = agree; stage = stage };
    }

module _ {σ : Shape} (b : Board) (z : Lengths σ b.memory b.cache) (i : ℕ) (h : i ≤ σ.lines) where
  -- The values that memory has stay there.
  same_back : SameValues σ b.memory b.cache → SameValues σ (written_back i b) b.cache
  same_back same u p = value-back b.memory b.cache z.memory z.cache i u h (same u p)

  -- Before the epoch's store a write-back of any line leaves the early stage.
  pub early-back : {m : Machine} (place steps : ℕ) {left : List Act} → Leaves b place left → 3 ≤ length left →
      (0 < progress (placed b.state place b.state.undo) → AllQuiescent b.state) →
      ((u : Location) → Has σ u → (Memᴰ (write_line (line_for u)) left → ⊥) → (view (written_back i b) u).value ≡ (view b.cache u).value) →
      Early σ b m → Early σ (moved b (written_back i b) place) (remade m m.checkpointed steps)
  early-back place steps {left} leaves low waiting written e =
      let same : epoch_of (written_back i b) ≡ epoch_of b.memory = epoch-back b.memory b.cache z.memory z.cache i h (λ q. e.epochs) in
      let now = leaves (written_back i b) in
      record {
        epochs = e.epochs ∙ sym same;
        marks = λ u p. e.marks u p ∙ ap (λ (n : ℕ). logs u n (view b.cache u)) (sym same);
        clean = λ u p o. value-back b.memory b.cache z.memory z.cache i u h (e.clean u p (ap (λ (n : ℕ). logs u n (view b.cache u)) (sym same) ∙ o));
        written = λ u p o. written u p (λ k. o (subst (Memᴰ (write_line (line_for u))) (sym now) k));
        left = subst (λ (xs : List Act). 3 ≤ length xs) (sym now) low;
        waiting = waiting;
        room = e.room;
      }

  -- Between the epoch's store and line 0's write-back another line's leaves the gap.
  pub gap_back : (i ≡ 0 → ⊥) → Gap σ b → Gap σ (moved b (written_back i b) b.state.place)
  gap_back o g =
      record {
        request = g.request;
        left = ap length (leaves-same b (written_back i b)) ∙ g.left;
        epochs = g.epochs ∙ ap (λ (n : ℕ). n + 1) (sym (epoch-back b.memory b.cache z.memory z.cache i h (λ q. absurd (o q))));
        same = same_back g.same;
        waiting = g.waiting;
      }

  -- After a write-back that leaves the cache's epoch in memory the board is in the late stage.
  pub late-back : (m : Machine) (place : ℕ) (xs : Location → ℕ) (steps : ℕ) {left : List Act} → Leaves b place left → 1 ≤ length left →
      length left ≤ 2 → b.state.requested ≡ true → epoch_of (written_back i b) ≡ epoch_of b.cache → SameValues σ b.memory b.cache →
      AllQuiescent b.state →
      ((u : Location) → Has σ u → xs u ≡ m.current u) → ((u : Location) → Has σ u → logs u (epoch_of b.cache) (view b.cache u) ≡ false) →
      Late σ (moved b (written_back i b) place) (remade m xs steps)
  late-back m place xs steps leaves low high on epoch same waiting complete unlogged =
      let now = leaves (written_back i b) in
      record {
        request = on;
        low = subst (λ (ys : List Act). 1 ≤ length ys) (sym now) low;
        high = subst (λ (ys : List Act). length ys ≤ 2) (sym now) high;
        epochs = sym epoch;
        same = same_back same;
        waiting = waiting;
        complete = complete;
        unlogged = λ u p. ap (λ (n : ℕ). logs u n (view b.cache u)) epoch ∙ unlogged u p;
      }
