-- Where the promises begin anew after a reading: at a recovery's start that takes the memory, and at the end of a format begun afterwards.
use Prim.Native.Nat.{ℕ, ◌<◌}
use mathlib.Core.Path.{◌≡◌, refl, sym, subst, ◌∙◌}
use Rattle.board.specs.Board.{Board, Shape, shape_in, cells}
use Rattle.board.specs.Location.{Location, cell, undo}
use Rattle.board.specs.Machine.{Machine, recovery_beginning}
use Rattle.board.specs.Sequence.{Begins, formatted, recovery_started, Run, opening, History, begun, further, rose, last_checkpoint}
use Rattle.board.specs.Statements.{ReadsAll, Recovered}
use Rattle.board.specs.LaterMark.{Leads, nothing, onward}
use Rattle.board.specs.HexHistories.{NoneCompleted, Promises, MemoryRead, MemoryRecovered, BeginsByRecovery, BeginsByFormat}
use Rattle.predicate.proofs.Bools.{passed_over}
use Rattle.board.proofs.Laws.Quiet.{hex-read-taken}
use Rattle.board.proofs.Recovery.Finishes.{recovers-taken}
use Rattle.board.proofs.Theorems.{reads, done-reads, demand3, demand3-by-checkpoints}

-- ---- 1. what a beginning promises

-- What leads on from a history is one.
led : {q : Run} → History q → (r : Run) → Leads q r → History r
led h r nothing = h
led h r (onward {q = p} l e) = further (led h p l) e

-- While no checkpoint was completed, the last is the beginning's.
first-last : {b : Board} {m : Machine} (h : Begins b m) (r : Run) (l : Leads (opening b m) r) → NoneCompleted l →
    last_checkpoint (led (begun h) r l) ≡ m.current
unfolding NoneCompleted last_checkpoint led
first-last h r nothing n = refl
first-last h r (onward {q = q} l e) n = passed_over (rose q r) r.machine.current (last_checkpoint (led (begun h) q l)) n.1 ∙ first-last h q l n.0

-- Whatever begins a history begins all that the demands promise.
pub begins-promises : (b : Board) (m : Machine) → Begins b m → Promises b m
begins-promises b m h =
    record {
      begins = h;
      history = led (begun h);
      reads = λ r l uncut. reads r (led (begun h) r l) uncut;
      recovers = λ r l d e. let k = led (begun h) r l in (demand3 r r k k d d e e).0;
      first = λ r l n d e.
          let k = led (begun h) r l in
          subst (λ (values : Location → ℕ). ReadsAll values d) (first-last h r l n) (demand3-by-checkpoints r r k k d d e e).0;
      alike = λ r s l k d e x y. (demand3 r s (led (begun h) r l) k d e x y).2;
    }

-- ---- 2. where the promises begin anew

-- A finished recovery reads the undo of the memory that its start took.
pub recovered-undo : (r : Run) (b : Board) → Recovered r b → ReadsAll (undo r.board.memory) b
recovered-undo r b e = done-reads (recovery_beginning (shape_in r.board.memory) (undo r.board.memory)) b (recovers-taken r b e)

pub memory-read : MemoryRead
memory-read text row left p s cache value b q = (hex-read-taken text row p refl, begins-promises b _ (recovery_started value _ b q))

pub memory-recovered : MemoryRecovered
memory-recovered text row left p r e b done = subst (λ (xs : _). ReadsAll (undo xs) b) e (recovered-undo r b done)

pub begins-by-recovery : BeginsByRecovery
begins-by-recovery b d read value b' p = begins-promises b' _ (recovery_started value d b' p)

pub begins-by-format : BeginsByFormat
begins-by-format b d read l w value start b' p takes = begins-promises b' _ (formatted l w value d start b' p takes)

-- ---- 3. what a reading ends

-- A finished recovery that was started on a memory whose undo has another value in a cell does not read the given values.
pub reads-otherwise : (r : Run) (b : Board) → Recovered r b → (values : Location → ℕ) (c : ℕ) → c < cells (shape_in r.board.memory) →
    (undo r.board.memory (cell c) ≡ values (cell c) → ⊥) → ReadsAll values b → ⊥
reads-otherwise r b e values c inside other f =
    let low = subst (λ (τ : Shape). c < cells τ) (sym (recovers-taken r b e).shape) inside in
    other (sym (recovered-undo r b e c low _ _ _ refl).1 ∙ (f c low _ _ _ refl).1)
