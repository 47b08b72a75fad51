-- A taken call does at most one store to a line or one line write-back, except in format steps and at recovery's start.
use Prim.Native.Nat.{ℕ, ◌+◌}
use mathlib.Core.Path.{◌≡◌, refl, sym, subst}
use mathlib.Core.List.{List, [], ◌∷◌}
use mathlib.Core.Bool.{false, true≢false}
use Rattle.line.specs.declared.Field.{Field}
use Rattle.line.specs.Cell.{cell_line, field_index, field_of, with_field}
use Rattle.board.specs.declared.State.{State}
use Rattle.board.specs.declared.Condition.{Condition}
use Rattle.board.specs.declared.Condition.TheVariants.{Free, Waiting, Updating, Away}
use Rattle.board.specs.declared.Store.{Store}
use Rattle.board.specs.declared.Store.TheVariants.{Backup, Mark, Record}
use Rattle.board.specs.declared.UndoStep.{UndoStep}
use Rattle.board.specs.declared.UndoStep.TheVariants.{Restore, Unmark, WriteLine}
use Rattle.board.specs.declared.Phase.{Phase}
use Rattle.board.specs.declared.Phase.TheVariants.{Off, Formatting, Recovering, Running}
use Rattle.board.specs.declared.Call.{Call}
use Rattle.board.specs.Board.{Board, epoch_of}
use Rattle.board.specs.State.{placed, condition_of, is_formatting}
use Rattle.board.specs.Next.{kind}
use Rattle.board.specs.Location.{undoes, restored}
use Rattle.board.specs.Effects.{cached, stated, stop_of, past_stop, recovery_step, perform_act, perform_first, step, advance, advance_of, effect}
use Rattle.board.specs.Checkpoint.{Act, write_line, store_epoch, write_header, release, acts}
use Rattle.board.specs.Statements.{OneStore, no_store, one_word, one_line, several, SingleStores}
use Rattle.predicate.proofs.Bools.{on}
use Rattle.board.proofs.Laws.Taken.{taken_next, ByEffect, quiet, the_format, the_recovery, the_step, the_update, the_restart, the_advance, the_request, the_write_back, the_going, the_coming, the_taking, the_giving, by-effect}

-- A field's store is one word of the cache.
field_stored : (c : ℕ) (f : Field) (v : ℕ) (b b' : Board) → b'.memory ≡ b.memory → b'.cache ≡ with_field b.cache c f v → OneStore b b'
unfolding with_field
field_stored c f v b b' m e = one_word (field_index c f) v m e

-- A step of a recovery.
recovery-stores : (u : UndoStep) (s : State) (b : Board) → OneStore b (recovery_step u s b)
unfolding recovery_step
recovery-stores Restore s b =
    on (OneStore b) (undoes b.cache (stop_of s)) (cached (restored b.cache (stop_of s)) (placed s s.place Unmark) b) (stated (past_stop s) b)
    (λ e. field_stored s.place Field.Record (field_of b.cache s.place Field.Backup) b _ refl refl)
    (λ e. no_store refl refl)
recovery-stores Unmark s b = field_stored s.place Field.Mark 0 b _ refl refl
recovery-stores WriteLine s b = one_line (cell_line s.place) refl refl

-- A step of a checkpoint.
checkpoint-stores : (a : Act) (s : State) (b : Board) → OneStore b (perform_act a s b)
unfolding perform_act
checkpoint-stores (write_line l) s b = one_line l refl refl
checkpoint-stores store_epoch s b = one_word 0 (epoch_of b.cache + 1) refl refl
checkpoint-stores write_header s b = one_line 0 refl refl
checkpoint-stores release s b = no_store refl refl

-- The first of those that are left.
first-stores : (xs : List Act) (s : State) (b : Board) → OneStore b (perform_first xs s b)
unfolding perform_first
first-stores [] s b = no_store refl refl
first-stores (a ∷ later) s b = checkpoint-stores a s b

-- A step in any phase but a format.
step-stores : (p : Phase) (s : State) (b : Board) → is_formatting p ≡ false → OneStore b (step p s b)
unfolding step
step-stores Off s b e = no_store refl refl
step-stores Formatting s b e = absurd (true≢false e)
step-stores Recovering s b e = recovery-stores s.undo s b
step-stores Running s b e = first-stores (acts b) s b

-- An advance by its next store.
advance-stores : (n : Store) (w c v : ℕ) (s : State) (b : Board) → OneStore b (advance n w c v s b)
unfolding advance
advance-stores Backup w c v s b = field_stored c Field.Backup (field_of b.cache c Field.Record) b _ refl refl
advance-stores Mark w c v s b = field_stored c Field.Mark (epoch_of b.cache) b _ refl refl
advance-stores Record w c v s b = field_stored c Field.Record v b _ refl refl

-- An advance of a worker in any condition.
worker-stores : (k : Condition) (w : ℕ) (s : State) (b : Board) → OneStore b (advance_of k w s b)
unfolding advance_of
worker-stores Free w s b = no_store refl refl
worker-stores Waiting w s b = no_store refl refl
worker-stores Away w s b = no_store refl refl
worker-stores (Updating n c v) w s b = advance-stores n w c v s b

-- What any call but a format's step and a recovery's start does where it is taken.
effect-stores : {k : Call} → ByEffect k → (b : Board) → several (kind k) b.state.phase ≡ false → OneStore b (effect k b)
unfolding effect
effect-stores (quiet q) b e = subst (λ (d : Board). OneStore b d) (sym (q.leaves b)) (no_store refl refl)
effect-stores (the_format l w) b e = no_store refl refl
effect-stores the_recovery b e = absurd (true≢false e)
effect-stores the_step b e = step-stores b.state.phase b.state b e
effect-stores (the_update w c v) b e = no_store refl refl
effect-stores (the_restart w v) b e = no_store refl refl
effect-stores (the_advance w) b e = worker-stores (condition_of b.state w) w b.state b
effect-stores the_request b e = no_store refl refl
effect-stores (the_write_back l) b e = one_line l refl refl
effect-stores (the_going w) b e = no_store refl refl
effect-stores (the_coming w) b e = no_store refl refl
effect-stores (the_taking w k) b e = no_store refl refl
effect-stores (the_giving w k) b e = no_store refl refl

-- A taken call stores one word of the cache, writes one line back, or does neither.
pub single-stores : SingleStores
single-stores k b t e = subst (λ (d : Board). OneStore b d) (sym (taken_next k b t)) (effect-stores (by-effect k) b e)
