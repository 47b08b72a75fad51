-- A run whose board is running: the invariant taken apart and put together, and what a call leaves of it.
use Prim.Native.Nat.{ℕ, ◌+◌}
use mathlib.Core.Path.{◌≡◌, refl, sym, ap, subst}
use mathlib.Core.Logic.{inl}
use mathlib.Core.List.{List}
use lib.ListN.{get_or}
use mathlib.Core.Bool.{Bool, true, false, true≢false}
use Rattle.line.specs.Line.{line_start}
use Rattle.board.specs.declared.Phase.{Phase}
use Rattle.board.specs.declared.Phase.TheVariants.{Off, Formatting, Recovering, Running}
use Rattle.board.specs.Location.{Location}
use Rattle.board.specs.Board.{epoch_of}
use Rattle.board.specs.State.{is_running, dirty_count}
use Rattle.board.specs.Machine.{marked_count}
use Rattle.board.specs.Sequence.{Run}
use Rattle.board.specs.Statements.{Unchanged, Completes}
use Rattle.predicate.proofs.Bools.{clash}
use Rattle.board.proofs.Laws.Taken.{shape-in}
use Rattle.board.proofs.Laws.Dirty.{dirty-count}
use Rattle.board.proofs.Invariant.{Kept, Lengths, RunningInv, InPhase, Inv}

-- What leads from run `r` to run `r'`, a format's step or not, carries the invariant over, and does to the last checkpoint what is claimed of it.
pub record Preserved (format : Bool) (r r' : Run) : Type 0 where
  pub keeps : Inv r'
  pub completion : Completes format r r'

-- What leaves memory and the machine's checkpointed values and shape changes nothing of the last checkpoint.
pub quiet : (r r' : Run) → r'.board.memory ≡ r.board.memory → r'.machine.shape ≡ r.machine.shape →
    ((u : Location) → r'.machine.checkpointed u ≡ r.machine.checkpointed u) → Unchanged r r'
quiet r r' m z v =
    record {
      board = record { shape = z; header = λ k p q. word k; spare = λ i k a b p q. word (line_start i + k) };
      epoch = ap epoch_of m;
      values = λ c h. v c;
    }
  where
    word : (k : ℕ) → get_or r'.board.memory k 0 ≡ get_or r.board.memory k 0
    word k = ap (λ (row : List ℕ). get_or row k 0) m

-- The invariant is kept, and nothing of the last checkpoint changes.
pub quietly : {r r' : Run} → Inv r' → r'.board.memory ≡ r.board.memory → r'.machine.shape ≡ r.machine.shape →
    ((u : Location) → r'.machine.checkpointed u ≡ r.machine.checkpointed u) → Preserved false r r'
quietly {r} {r'} i m z v = record { keeps = i; completion = inl (quiet r r' m z v) }

-- The only phase in which the board runs.
pub is-running : (p : Phase) → is_running p ≡ true → p ≡ Running
is-running Off e = absurd (true≢false (sym e))
is-running Formatting e = absurd (true≢false (sym e))
is-running Recovering e = absurd (true≢false (sym e))
is-running Running e = refl

-- A running board under the invariant.
pub record RunningRun (r : Run) : Type 0 where
  pub inv : Inv r
  pub running : RunningInv r.machine.shape r.board r.machine
  pub on : r.erased ≡ false
  pub phase : r.board.state.phase ≡ Running

-- What the invariant says of a running board.
pub running-run : (r : Run) → Inv r → r.crashed ≡ false → r.board.state.phase ≡ Running → RunningRun r
running-run r inv d e =
    let v : InPhase Running r = subst (λ (p : Phase). InPhase p r) e (inv.phase d) in
    record { inv = inv; running = v.0; on = v.1; phase = e }

-- Its dirty lines are as many as the machine's lines with a marked cell.
pub running-count : {r : Run} → RunningRun r → dirty_count r.board.state ≡ marked_count r.machine
running-count {r} s = dirty-count r.board.state.dirty r.machine.marked s.running.checkpoint.dirty (shape-in r.machine.shape s.inv.sizes.limits).1

-- The invariant of a running board from its parts.
pub inv-running : (r : Run) → r.erased ≡ false → r.board.state.phase ≡ Running →
    Lengths r.machine.shape r.board.memory r.board.cache → Kept r.machine.shape r.machine.checkpointed r.board.memory →
    RunningInv r.machine.shape r.board r.machine → Inv r
inv-running r off e z k v =
    record {
      sizes = z;
      kept = λ q. k;
      lost = λ q. absurd (clash q off);
      phase = λ d. subst (λ (p : Phase). InPhase p r) (sym e) (v, off);
    }
