-- A running board after a line's write-back, by a call or by a step of its checkpoint.
use Prim.Native.Nat.{ℕ, ◌+◌, ◌≤◌}
use mathlib.Core.Path.{◌≡◌, refl, sym, subst, ◌∙◌, ap}
use mathlib.Core.Logic.{inl, inr}
use mathlib.Core.List.{List}
use mathlib.Core.Bool.{Bool, true, false}
use native.Mathlib.Omega.{arith}
use lib.ListN.{length}
use Rattle.board.specs.Board.{Shape, epoch_of}
use Rattle.board.specs.Location.{Location, Has}
use Rattle.board.specs.Checkpoint.{Act, acts}
use Rattle.board.specs.Effects.{written_back}
use Rattle.board.specs.Machine.{marked_count}
use Rattle.board.specs.Sequence.{Run}
use Rattle.board.specs.Statements.{SameSpare}
use Rattle.board.proofs.Laws.View.{view, logs, next-epoch, sized-back}
use Rattle.board.proofs.Invariant.{SameSizes, Undoes, Kept, Stage, early, gap, late, Inv}
use Rattle.board.proofs.Laws.Rows.{epoch-back, epoch-back-header, spare-back, spare-backed, sizes-back}
use Rattle.board.proofs.Checkpoint.Run.{Preserved, RunningRun, inv-running}
use Rattle.board.proofs.Checkpoint.Memory.{undoes-same, kept_same, kept_back, kept_next, undoes-next}
use Rattle.board.proofs.Checkpoint.Stages.{moved, remade, Leaves, running-moved, late-back}

-- The run with line `i` written back, another place, other checkpointed values and another number of steps.
abbrev pub back_run : Run → ℕ → ℕ → (Location → ℕ) → ℕ → Bool → Run
back_run r i place xs steps crashed =
    record { board = moved r.board (written_back i r.board) place; machine = remade r.machine xs steps; crashed = crashed; erased = r.erased }

-- A write-back after which the checkpoint is at `place`, with the acts `left` to come, and the machine has counted `steps`.
module _ (r : Run) (s : RunningRun r) (place steps : ℕ) {left : List Act} (leaves : Leaves r.board place left) (agree : r.board.state.requested ≡ true → steps + length left ≡ marked_count r.machine + 3) (crashed : Bool) where
  abbrev σ : Shape
  σ = r.machine.shape

  -- The sizes in memory stay.
  sizes : (i : ℕ) → i ≤ σ.lines → SameSizes r.board.memory (written_back i r.board)
  sizes i h = sizes-back r.board.memory r.board.cache s.inv.sizes.memory s.inv.sizes.cache i h s.running.rows.sizes.header

  -- So do words 6 and 7.
  spare : (i : ℕ) → i ≤ σ.lines → SameSpare σ r.board.memory (written_back i r.board)
  spare i h = spare-back r.board.memory r.board.cache s.inv.sizes.memory s.inv.sizes.cache i h s.running.rows.spare

  -- The invariant after a write-back, from what it leaves in memory and the stage it leads to.
  inv-back : (i : ℕ) → i ≤ σ.lines → (xs : Location → ℕ) → Kept σ xs (written_back i r.board) →
      Undoes σ (epoch_of (written_back i r.board)) xs r.board.cache →
      Stage σ (moved r.board (written_back i r.board) place) (remade r.machine xs steps) → Inv (back_run r i place xs steps crashed)
  inv-back i h xs k u stage =
      let z = s.inv.sizes in
      inv-running (back_run r i place xs steps crashed) s.on s.phase
      (record { limits = z.limits; memory = sized-back r.board.memory r.board.cache z.memory z.cache i h; cache = z.cache })
      k
      (running-moved s.running (written_back i r.board) place xs steps (sizes i h) (spare-backed r.board.memory r.board.cache z.memory z.cache i h s.running.rows.spare)
      (λ on. ap (λ (ys : List Act). steps + length ys) (leaves (written_back i r.board)) ∙ agree on) u stage)

  -- A write-back that leaves memory's epoch: recovery gives what it gave.
  pub quiet-back : (i : ℕ) → i ≤ σ.lines → (i ≡ 0 → epoch_of r.board.cache ≡ epoch_of r.board.memory) → (xs : Location → ℕ) →
      ((u : Location) → Has σ u → r.machine.checkpointed u ≡ xs u) →
      Stage σ (moved r.board (written_back i r.board) place) (remade r.machine xs steps) →
      Preserved false r (back_run r i place xs steps crashed)
  quiet-back i h e xs same stage =
      let z = s.inv.sizes in
      let v = s.running.rows in
      let epoch : epoch_of (written_back i r.board) ≡ epoch_of r.board.memory = epoch-back r.board.memory r.board.cache z.memory z.cache i h e in
      record {
        keeps =
            inv-back i h xs
            (kept_same xs (written_back i r.board) same
            (kept_back r.board.memory r.board.cache z.memory z.cache r.machine.checkpointed i h e v.header v.undoes (s.inv.kept s.on)))
            (subst (λ (n : ℕ). Undoes σ n xs r.board.cache) (sym epoch)
            (undoes-same σ r.machine.checkpointed xs r.board.cache same v.undoes))
            stage;
        completion = inl (record { board = record { shape = refl; header = sizes i h; spare = spare i h }; epoch = epoch; values = λ u p. sym (same u p) });
      }

  -- Line 0's write-back after the epoch's store completes the checkpoint, and done again changes nothing.
  pub header-back : r.board.state.requested ≡ true → length (acts r.board) ≤ 2 → 1 ≤ length left → length left ≤ 2 →
      Stage σ r.board r.machine → Preserved false r (back_run r 0 place r.machine.current steps crashed)
  header-back on past low high (early e) = absurd (omega (arith, e.left))
  header-back on past low high (gap g) =
      let z = s.inv.sizes in
      let v = s.running.rows in
      let epoch = epoch-back-header r.board.memory r.board.cache z.memory z.cache in
      record {
        keeps =
            inv-back 0 (omega arith) r.machine.current
            (kept_next r.board.memory r.board.cache z.memory z.cache r.machine.checkpointed r.machine.current g.epochs v.header (s.inv.kept s.on) (λ u p. g.same u p ∙ v.current u p))
            (undoes-next r.board.memory r.board.cache z.memory z.cache r.machine.checkpointed r.machine.current g.epochs v.undoes v.current)
            (late (late-back r.board z 0 (omega arith) r.machine place r.machine.current steps leaves low high on epoch g.same g.waiting (λ u p. refl)
            (λ u p. ap (λ (n : ℕ). logs u n (view r.board.cache u)) g.epochs ∙ (next-epoch u (epoch_of r.board.memory) (view r.board.cache u) (v.undoes u p).fit).0)));
        completion = inr (record { board = record { shape = refl; header = sizes 0 (omega arith); spare = spare 0 (omega arith) }; epoch = epoch ∙ g.epochs; values = λ u p. refl; current = λ u p. refl });
      }
  header-back on past low high (late e) =
      let z = s.inv.sizes in
      quiet-back 0 (omega arith) (λ q. e.epochs) r.machine.current e.complete
      (late (late-back r.board z 0 (omega arith) r.machine place r.machine.current steps leaves low high on
      (epoch-back-header r.board.memory r.board.cache z.memory z.cache) e.same e.waiting (λ u p. refl)
      (λ u p. ap (λ (n : ℕ). logs u n (view r.board.cache u)) e.epochs ∙ e.unlogged u p)))
