-- What a step leaves of the state record, apart from L, W and the holders of the locks.
use Rattle.std.specs.Prelude.{ℕ, Bool, cond, List}
use Rattle.bitset.specs.Words.{empty}
use Rattle.board.specs.declared.State.{State}
use Rattle.board.specs.declared.Worker.{Worker}
use Rattle.board.specs.State.{all_free, released_workers}
use Rattle.effects.specs.declared.record.Progress.{Progress}
use Rattle.effects.specs.declared.record.Workers.{Workers}
use Rattle.effects.specs.declared.record.Workers.TheVariants.{Kept, Freed, Released}

-- The eight workers after a step that keeps them, frees them all, or releases them.
abbrev pub workers_after : Workers → State → List Worker
workers_after Kept s = s.worker
workers_after Freed s = all_free
workers_after Released s = released_workers s

-- The dirty lines after a step that cleared them, or kept them.
abbrev pub dirty_after : Bool → List ℕ → List ℕ
dirty_after cleared dirty = cond cleared empty dirty

-- The record with a step's progress put in: L, W and the holders stay.
abbrev pub progressed : State → Progress → State
progressed s p =
    record { phase = p.phase; lines = s.lines; workers = s.workers; place = p.place; undo = p.undo; requested = p.requested; holders = s.holders; dirty = dirty_after p.cleared s.dirty; worker = workers_after p.workers s }
