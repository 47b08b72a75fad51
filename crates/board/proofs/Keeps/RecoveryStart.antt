-- A taken recovery start: memory has a board to recover, a history can begin there, and the invariant is kept.
use Prim.Native.Nat.{ℕ, ◌≤◌, ◌<◌}
use mathlib.Core.Path.{◌≡◌, refl, sym, ◌∙◌}
use mathlib.Core.List.{List}
use mathlib.Core.Bool.{Bool, false, false≢true}
use native.Mathlib.Omega.{arith}
use Rattle.line.specs.declared.Field.TheVariants.{Mark}
use Rattle.line.specs.Cell.{field_of}
use Rattle.board.specs.declared.Call.TheVariants.{RecoveryStart}
use Rattle.board.specs.Board.{Board, Shape, shape_in, cells, shape_outside, epoch_of, workers_of}
use Rattle.board.specs.Causes.{causes}
use Rattle.board.specs.Location.{Location, cell, Has, value_in, old_in, logged, undo}
use Rattle.board.specs.Effects.{effect}
use Rattle.board.specs.Machine.{Machine, recovery_beginning, feed}
use Rattle.board.specs.Sequence.{Run, opening}
use Rattle.predicate.proofs.Bools.{split, chosen, passed_over}
use Rattle.board.proofs.Laws.View.{view, Fit, view-value, view-old, view-logged, view-stamp, Sized}
use Rattle.board.proofs.Invariant.{Undo, Kept, Lengths, RecoveryInv, RecoveryMachine, Inv, Whole}
use Rattle.board.proofs.Laws.Taken.{stands_at, passed, later-bounds, after_taken}
use Rattle.board.proofs.Laws.Locks.{unheld-under}
use Rattle.board.proofs.Recovery.Board.{some-stop, started-header, started-rows}
use Rattle.board.specs.Next.{Taken}

-- ---- a recovery at its start

-- A recovery of a memory that gives the values `xs`, at its start.
started-recovery : (σ : Shape) (xs : Location → ℕ) (b : Board) → shape_outside σ ≡ false → Sized σ b.memory → Kept σ xs b.memory →
    RecoveryInv σ xs (effect RecoveryStart b)
unfolding effect
started-recovery σ xs b lim z k =
    let whole : Whole σ (epoch_of b.memory) xs b.memory = record { sized = z; header = k.header; epoch = refl; undoes = k.undoes } in
    record {
      underway = record { own = record { shape = k.header.shape; limits = k.header.limits; holders = unheld-under (workers_of b.memory); eight = refl }; clean = refl; request = refl; free = refl; within = some-stop σ lim };
      sizes = record { header = λ i p q. refl; workers = refl };
      rows =
          record {
            memory = whole;
            cache = whole;
            stamps = record { passed_cache = λ u b h. absurd (omega arith); passed_memory = λ u b h. absurd (omega arith); ahead = λ u a b e. e };
            spare = λ i j p q s t. refl;
          };
      here = λ u a b e. e;
    }

-- The run there has the invariant.
started-inv : (b : Board) (m : Machine) (crashed : Bool) {erased : Bool} → erased ≡ false → Lengths m.shape b.memory b.memory →
    Kept m.shape m.checkpointed b.memory → RecoveryMachine m →
    Inv (record { board = effect RecoveryStart b; machine = m; crashed = crashed; erased = erased })
unfolding effect
started-inv b m crashed off z k beside =
    record {
      sizes = z;
      kept = λ e. k;
      lost = λ e. absurd (false≢true (sym off ∙ e));
      phase = λ d. (started-recovery m.shape m.checkpointed b z.limits z.memory k, beside, off);
    }

-- ---- in a history

-- A recovery start is taken only where no format is unfinished.
pub erased-off : (r : Run) → Inv r → Taken RecoveryStart r.board → r.erased ≡ false
erased-off r inv t = split r.erased (λ e. absurd ((started-header r.board t).epoch (inv.lost e))) (λ e. e)

-- Memory at a taken recovery start gives the checkpointed values.
pub recovery-kept : (r : Run) → Inv r → Taken RecoveryStart r.board → Kept r.machine.shape r.machine.checkpointed r.board.memory
recovery-kept r inv t = inv.kept (erased-off r inv t)

-- A taken recovery start keeps the invariant, also after a cut.
pub keeps-recovery-start : (r : Run) → Inv r → Taken RecoveryStart r.board → Inv (after_taken RecoveryStart r)
unfolding effect feed
keeps-recovery-start r inv t =
    started-inv r.board (feed RecoveryStart r.machine) _ (erased-off r inv t)
    (record { limits = inv.sizes.limits; memory = inv.sizes.memory; cache = inv.sizes.memory })
    (recovery-kept r inv t)
    (record { request = refl; formatting = refl; current = λ c. refl; marked = λ c. refl; unfinished = λ w. refl })

-- ---- where a history begins

-- No mark of a memory that recovery's start takes is ahead of its epoch.
pub started-marks : (b : Board) → Taken RecoveryStart b → (c : ℕ) → c < cells (shape_in b.memory) → field_of b.memory c Mark ≤ epoch_of b.memory
unfolding stands_at causes
started-marks b t c h =
    let bound = later-bounds _ b.memory (passed RecoveryStart b t 14) c h in
    omega (arith, bound)

-- The stamps of such a memory can stand in its epoch.
started-fit : (b : Board) → Taken RecoveryStart b → (u : Location) → Has (shape_in b.memory) u → Fit u (epoch_of b.memory) (view b.memory u)
started-fit b t (cell c) h = omega (arith, started-marks b t c h, view-stamp b.memory c)

-- Undoing a location gives what `undo` says of it.
undoes-own : (row : List ℕ) (u : Location) → Fit u (epoch_of row) (view row u) → Undo u (epoch_of row) (undo row u) (view row u)
undoes-own row u h =
    record {
      logged = λ e. sym (view-old row u) ∙ sym (chosen (logged row u) (old_in row u) (value_in row u) (view-logged row u ∙ e));
      plain = λ o. sym (view-value row u) ∙ sym (passed_over (logged row u) (old_in row u) (value_in row u) (view-logged row u ∙ o));
      fit = h;
    }

-- A memory that recovery's start takes gives its own undo.
started-kept : (b : Board) → Taken RecoveryStart b → Kept (shape_in b.memory) (undo b.memory) b.memory
started-kept b t =
    let header = started-header b t in
    record {
      header = record { epoch = omega (arith, header.epoch); shape = refl; limits = header.limits; rest = header.rest };
      undoes = λ u h. undoes-own b.memory u (started-fit b t u h);
    }

-- The invariant holds where a recovery's start takes a memory, whoever wrote it.
pub recovery-begins : (b : Board) → Taken RecoveryStart b → Inv (opening (effect RecoveryStart b) (recovery_beginning (shape_in b.memory) (undo b.memory)))
recovery-begins b t =
    started-inv b (recovery_beginning (shape_in b.memory) (undo b.memory)) false refl (let z = started-rows b t in record { limits = z.limits; memory = z.memory; cache = z.memory }) (started-kept b t)
    (record { request = refl; formatting = refl; current = λ c. refl; marked = λ c. refl; unfinished = λ w. refl })
