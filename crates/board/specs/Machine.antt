-- Document 01, "The simple machine", and document 02, tickets 4 and 5: what demand 2 compares the board with. It never sees the board.
use Rattle.std.specs.Prelude.{ℕ, zero, suc, ◌+◌, ◌-◌, ◌*◌, Bool, true, false, cond, ◌&&◌, ◌||◌, leb, eqb}
use Rattle.board.specs.declared.Call.{Call}
use Rattle.board.specs.declared.Call.TheVariants.{FormatStart, RecoveryStart, Step, Update, RestartPoint, Advance, Request, WriteBack, Read, GoAway, ComeBack, Count, TakeLock, GiveBackLock}
use Rattle.board.specs.Board.{Shape, shaped}
use Rattle.board.specs.Location.{Location, cell, changed_at}
unfoldable pub use Rattle.predicate.specs.Passing.{count_under}

-- "for each worker an unfinished update (cell, value, stores left)".
pub data Unfinished : Type 0 where
  none : Unfinished
  update : Location → ℕ → ℕ → Unfinished

-- "It holds for each cell a current and a checkpointed value and whether it is marked; ..; whether a request stands; the steps since the last start or request."
-- Beside 01's list: whether the last start was a format's, and the board's shape.
pub record Machine : Type 0 where
  pub current : Location → ℕ
  pub checkpointed : Location → ℕ
  pub marked : Location → Bool
  pub unfinished : ℕ → Unfinished
  pub requested : Bool
  pub steps : ℕ
  pub formatting : Bool
  pub shape : Shape

-- "L+2 steps".
abbrev pub format_steps : ℕ → ℕ
format_steps l = l + 2

-- "At a finished format, where it begins, values are 0, with no marks, updates or request."
abbrev pub beginning : Shape → Machine
beginning σ =
    record { current = λ c. 0; checkpointed = λ c. 0; marked = λ c. false; unfinished = λ w. none; requested = false; steps = format_steps σ.lines; formatting = true; shape = σ }

-- 02, ticket 4: at a recovery's start that takes a memory, "its own undo standing as the first checkpoint": both values of each cell are the given ones, with no marks, updates or request.
abbrev pub recovery_beginning : Shape → (Location → ℕ) → Machine
recovery_beginning σ values =
    record { current = values; checkpointed = values; marked = λ c. false; unfinished = λ w. none; requested = false; steps = 0; formatting = false; shape = σ }

-- A function changed at one place.
unfoldable pub changed {ℓ} : {A : Type ℓ} → (ℕ → A) → ℕ → A → ℕ → A
changed f i a j = cond (eqb j i) a (f j)

-- Line i + 1 has a marked cell: its cells are 2i and 2i + 1.
abbrev pub marked_line : Machine → ℕ → Bool
marked_line m i = m.marked (cell (2 * i)) || m.marked (cell (2 * i + 1))

-- 02, ticket 5: n is "that of the lines with a marked cell".
abbrev pub marked_count : Machine → ℕ
marked_count m = count_under m.shape.lines (marked_line m)

-- "A start drops updates and request."
abbrev pub started_format : Shape → Machine → Machine
started_format σ m =
    record { current = m.current; checkpointed = m.checkpointed; marked = m.marked; unfinished = λ w. none; requested = false; steps = 0; formatting = true; shape = σ }

-- "Recovery's also copies checkpointed to current and drops the marks".
abbrev pub started_recovery : Machine → Machine
started_recovery m =
    record { current = m.checkpointed; checkpointed = m.checkpointed; marked = λ c. false; unfinished = λ w. none; requested = false; steps = 0; formatting = false; shape = m.shape }

-- "Request: from then on a request stands."
abbrev pub started_request : Machine → Machine
started_request m =
    record { current = m.current; checkpointed = m.checkpointed; marked = m.marked; unfinished = m.unfinished; requested = true; steps = 0; formatting = m.formatting; shape = m.shape }

-- One more step since the last start or request.
abbrev pub counted : Machine → Machine
counted m =
    record { current = m.current; checkpointed = m.checkpointed; marked = m.marked; unfinished = m.unfinished; requested = m.requested; steps = m.steps + 1; formatting = m.formatting; shape = m.shape }

-- "current is copied to checkpointed, the checkpoint is complete".
abbrev pub completed : Machine → Machine
completed m =
    record { current = m.current; checkpointed = m.current; marked = m.marked; unfinished = m.unfinished; requested = m.requested; steps = m.steps; formatting = m.formatting; shape = m.shape }

-- "step n+3 drops marks and request".
abbrev pub dropped : Machine → Machine
dropped m =
    record { current = m.current; checkpointed = m.checkpointed; marked = λ c. false; unfinished = m.unfinished; requested = false; steps = m.steps; formatting = m.formatting; shape = m.shape }

-- The machine with an update of worker `w` noted, over or with fewer stores left.
abbrev pub noting : ℕ → Unfinished → Machine → Machine
noting w u m =
    record { current = m.current; checkpointed = m.checkpointed; marked = m.marked; unfinished = changed m.unfinished w u; requested = m.requested; steps = m.steps; formatting = m.formatting; shape = m.shape }

-- "the cell is marked".
abbrev pub marking : Location → Machine → Machine
marking u m =
    record { current = m.current; checkpointed = m.checkpointed; marked = changed_at m.marked u true; unfinished = m.unfinished; requested = m.requested; steps = m.steps; formatting = m.formatting; shape = m.shape }

-- "the value becomes current".
abbrev pub valued : Location → ℕ → Machine → Machine
valued u v m =
    record { current = changed_at m.current u v; checkpointed = m.checkpointed; marked = m.marked; unfinished = m.unfinished; requested = m.requested; steps = m.steps; formatting = m.formatting; shape = m.shape }

-- "one store left if the cell is marked, else three".
abbrev pub update_start : ℕ → Location → ℕ → Machine → Machine
update_start w u v m = noting w (update u v (cond (m.marked u) 1 3)) m

-- "one left fewer. At one the cell is marked; at none the value becomes current and the update is over."
unfoldable pub fewer : ℕ → ℕ → Location → ℕ → Machine → Machine
fewer zero w u v m = valued u v (noting w none m)
fewer (suc zero) w u v m = marking u (noting w (update u v 1) m)
fewer (suc (suc left)) w u v m = noting w (update u v (suc (suc left))) m

-- An advance of the worker's unfinished update.
unfoldable pub advanced : Unfinished → ℕ → Machine → Machine
advanced none w m = m
advanced (update u v left) w m = fewer (left - 1) w u v m

-- A step of a requested checkpoint, by the steps since the request: n+2 writes line 0 back, n+3 ends it.
unfoldable pub checkpoint_step : Machine → Machine
checkpoint_step m =
    cond (eqb (m.steps + 1) (marked_count m + 2)) (completed (counted m)) (cond (eqb (m.steps + 1) (marked_count m + 3)) (dropped (counted m)) (counted m))

-- "Step L+2 after a format's start, no other start between: as at the beginning."
abbrev pub finishes_format : Machine → Bool
finishes_format m = m.formatting && eqb (m.steps + 1) (format_steps m.shape.lines)

-- A taken step: of a requested checkpoint, the last of a format, or one that is only counted.
unfoldable pub stepped : Machine → Machine
stepped m = cond m.requested (checkpoint_step m) (cond (finishes_format m) (beginning m.shape) (counted m))

-- "Write-back of line 0, .. by a call between steps n+1 and n+3 while that request stands".
unfoldable pub write_back_seen : ℕ → Machine → Machine
write_back_seen l m = cond (eqb l 0 && m.requested && leb (marked_count m + 1) m.steps) (completed m) m

-- What a taken call does to the machine; going away and coming back it does not see, since it holds no conditions, nor the count; nor who holds a lock.
unfoldable pub feed : Call → Machine → Machine
feed (FormatStart l w) m = started_format (shaped l) m
feed RecoveryStart m = started_recovery m
feed Step m = stepped m
feed (Update w c v) m = update_start w (cell c) v m
feed (RestartPoint w v) m = update_start w (cell w) v m
feed (Advance w) m = advanced (m.unfinished w) w m
feed Request m = started_request m
feed (WriteBack l) m = write_back_seen l m
feed (Read c) m = m
feed (GoAway w) m = m
feed (ComeBack w) m = m
feed Count m = m
feed (TakeLock w k) m = m
feed (GiveBackLock w k) m = m
