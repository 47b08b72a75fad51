-- The fault program's `B k v`, `Q i v`, `K w c n a v` and `O k h`: the state record with a field, a word of the dirty lines' bits, a worker or a lock's holder put anew.
use Rattle.std.specs.Prelude.{ℕ, Bool, false, cond, ◌&&◌, ◌==◌, nat_le, nat_lt, slice_set}
use Rattle.board.specs.declared.State.{State}
use Rattle.board.specs.declared.Phase.{Phase}
use Rattle.board.specs.declared.Phase.TheVariants.{Off, Formatting, Recovering, Running}
use Rattle.board.specs.declared.Store.{Store}
use Rattle.board.specs.declared.Store.TheVariants.{Backup, Mark, Record}
use Rattle.board.specs.declared.UndoStep.{UndoStep}
use Rattle.board.specs.declared.UndoStep.TheVariants.{Restore, Unmark, WriteLine}
use Rattle.board.specs.declared.Condition.{Condition}
use Rattle.board.specs.declared.Condition.TheVariants.{Free, Waiting, Updating, Away}
use Rattle.locks.specs.Holders.{lock_count, held_by, given_back}
use Rattle.board.specs.State.{conditioned, locked}

-- "0 off, 1 formatting, 2 recovering, 3 running".
abbrev pub phase_of : ℕ → Phase
phase_of n = cond (n == 0) Off (cond (n == 1) Formatting (cond (n == 2) Recovering Running))

-- "a recovery's step, 0 to 2".
abbrev pub undo_of : ℕ → UndoStep
undo_of n = cond (n == 0) Restore (cond (n == 1) Unmark WriteLine)

-- "0 backup, 1 mark, 2 record".
abbrev pub store_of : ℕ → Store
store_of n = cond (n == 0) Backup (cond (n == 1) Mark Record)

-- "0 phase; 1 L, to 65,535; 2 W, to 255; 4 place, to 65,535; 5 a recovery's step; 6 request, 0 or 1"; "there is no field 3".
unfoldable pub field_fits : ℕ → ℕ → Bool
field_fits k v =
    cond (k == 0) (nat_le v 3) (cond (k == 1) (nat_le v 65535) (cond (k == 2) (nat_le v 255) (cond (k == 4) (nat_le v 65535) (cond (k == 5) (nat_le v 2) (cond (k == 6) (nat_le v 1) false)))))

-- "field k of the record := v", all else as it was.
unfoldable pub with_field : State → ℕ → ℕ → State
with_field s k v =
    record {
      phase = cond (k == 0) (phase_of v) s.phase;
      lines = cond (k == 1) v s.lines;
      workers = cond (k == 2) v s.workers;
      place = cond (k == 4) v s.place;
      undo = cond (k == 5) (undo_of v) s.undo;
      requested = cond (k == 6) (v == 1) s.requested;
      holders = s.holders;
      dirty = s.dirty;
      worker = s.worker;
    }

-- The record after `B k v`.
abbrev pub field_put : State → ℕ → ℕ → State
field_put s k v = cond (field_fits k v) (with_field s k v) s

-- "word i, 0 to 7, of the record's line bits".
abbrev pub word_there : ℕ → Bool
word_there i = nat_lt i 8

-- That word := v, all else as it was.
abbrev pub with_word : State → ℕ → ℕ → State
with_word s i v =
    record { phase = s.phase; lines = s.lines; workers = s.workers; place = s.place; undo = s.undo; requested = s.requested; holders = s.holders; dirty = slice_set s.dirty i v; worker = s.worker }

-- The record after `Q i v`.
abbrev pub word_put : State → ℕ → ℕ → State
word_put s i v = cond (word_there i) (with_word s i v) s

-- "those that a condition has no use for must be 0".
abbrev pub unused : ℕ → ℕ → ℕ → Bool
unused n a v = n == 0 && (a == 0 && v == 0)

-- "0 free, 1 waiting, 2 updating with next store n, cell a to 65,535, value v; 3 away".
unfoldable pub condition_fits : ℕ → ℕ → ℕ → ℕ → Bool
condition_fits c n a v =
    cond (c == 0) (unused n a v) (cond (c == 1) (unused n a v) (cond (c == 2) (nat_le n 2 && nat_le a 65535) (cond (c == 3) (unused n a v) false)))

-- The condition that such numbers mean.
unfoldable pub condition_of : ℕ → ℕ → ℕ → ℕ → Condition
condition_of c n a v = cond (c == 0) Free (cond (c == 1) Waiting (cond (c == 2) (Updating (store_of n) a v) Away))

-- "worker w, 0 to 7".
abbrev pub worker_fits : ℕ → ℕ → ℕ → ℕ → ℕ → Bool
worker_fits w c n a v = nat_lt w 8 && condition_fits c n a v

-- The record after `K w c n a v`.
abbrev pub worker_put : State → ℕ → ℕ → ℕ → ℕ → ℕ → State
worker_put s w c n a v = cond (worker_fits w c n a v) (conditioned s w (condition_of c n a v)) s

-- "lock k, 0 to 15: its holder := h, a worker 0 to 7, or 8 for none".
abbrev pub holder_fits : ℕ → ℕ → Bool
holder_fits k h = nat_lt k lock_count && nat_le h 8

-- The holders with lock `k` held by worker `h`, or by nobody where `h` is 8.
abbrev pub with_holder : ℕ → ℕ → ℕ → ℕ
with_holder holders k h = cond (h == 8) (given_back holders k) (held_by holders k h)

-- The record after `O k h`.
abbrev pub holder_put : State → ℕ → ℕ → State
holder_put s k h = cond (holder_fits k h) (locked s (with_holder s.holders k h)) s
