-- The ticket's own story, 02's ticket 4: on a memory with a mark later than its epoch the promise would be broken one checkpoint on.
use Prim.Native.Nat.{ℕ, ◌<◌}
use mathlib.Core.Path.{◌≡◌, refl, sym, subst}
use mathlib.Core.List.{List, [], ◌∷◌}
use mathlib.Core.Bool.{true, false, ◌&&◌}
use native.Mathlib.Omega.{arith}
use lib.ListN.{replicate}
use Rattle.predicate.specs.Passing.{any_under, count_under, nth_from, nth_under, numbers_under}
use Rattle.bitset.specs.Words.{bits_in, bit_of, with_bit, contains, inserted as added, size, nth, strays}
use Rattle.locks.specs.Holders.{digit_of, unheld, holds as held, holds_any, held_from, with_digit}
use Rattle.line.specs.Line.{line_of, with_line}
use Rattle.line.specs.Cell.{field_index, field_of, with_field}
use Rattle.board.specs.declared.Condition.TheVariants.{Updating}
use Rattle.board.specs.declared.Store.TheVariants.{Record}
use Rattle.board.specs.declared.Call.{Call}
use Rattle.board.specs.declared.Call.TheVariants.{RecoveryStart, Step, Update, RestartPoint, Advance, Request, WriteBack, Read, TakeLock}
use Rattle.board.specs.Board.{Board, shaped, cells, epoch_of}
use Rattle.board.specs.State.{condition_of}
use Rattle.board.specs.Causes.{bad_record, causes, first_standing, cause}
use Rattle.board.specs.Location.{cell, changed_at}
use Rattle.board.specs.Effects.{recovery_step, perform_act, perform_first, step, advance, advance_of, effect}
use Rattle.board.specs.Checkpoint.{acts, stores_epoch}
use Rattle.board.specs.Next.{Taken, taken, next, value_read, value_of}
use Rattle.board.specs.Machine.{update, changed, fewer, advanced, checkpoint_step, stepped, write_back_seen, feed}
use Rattle.board.specs.Sequence.{Run, taken_call, undo_steps, recovery_steps}
use Rattle.board.specs.Statements.{ReadsCheckpointed}
use Rattle.board.specs.LaterMark.{Leads, nothing, onward, unguarded, LaterMark}
use Rattle.board.specs.Bench.{blank, after_calls}
use Rattle.board.specs.Refusals.Boards.{remembered}
use Rattle.board.proofs.Laws.Taken.{performing}
use Rattle.board.proofs.Laws.Playing.{made, made_all, calls-carry, by_kind, takes_test, played-recovered}

-- The swapped module: epoch 5, and cell 1 with record 7, backup 3 and a mark of epoch 6.
swapped : Board
swapped = remembered (5 ∷ 1 ∷ 1 ∷ 0 ∷ 0 ∷ 0 ∷ 0 ∷ 0 ∷ 0 ∷ 0 ∷ 0 ∷ 7 ∷ 3 ∷ 6 ∷ 0 ∷ 0 ∷ []) (blank 16)

-- Recovery passes over both cells; a checkpoint with restart point 4 then goes to epoch 6, and worker 0 takes cell 1's lock.
to_checkpoint : List Call
to_checkpoint = Step ∷ Step ∷ Request ∷ RestartPoint 0 4 ∷ Advance 0 ∷ Advance 0 ∷ Advance 0 ∷ Step ∷ Step ∷ Step ∷ Step ∷ TakeLock 0 1 ∷ []

later : Run
later = made_all to_checkpoint (unguarded swapped)

-- An update of cell 1 to 9 has one store, its record's; its line goes out.
started : Run
started = taken_call (Update 0 1 9) (next (Update 0 1 9) later.board) later

run : Run
run = made_all (Advance 0 ∷ WriteBack 1 ∷ []) started

-- The recovery after it restores the module's old backup.
left : Board
left = after_calls (replicate 4 Step) (next RecoveryStart run.board)

leads : (r : Run) (ks : List Call) → r.crashed ≡ false → Leads r (made_all ks r)
leads r ks d = calls-carry (Leads r) (λ q q' h e. onward h e) ks r d nothing

seen-later : (epoch_of later.board.memory ≡ 6) × Taken (Update 0 1 9) later.board × ((feed (Update 0 1 9) later.machine).unfinished 0 ≡ update (cell 1) 9 3) × (condition_of (next (Update 0 1 9) later.board).state 0 ≡ Updating Record 1 9)
unfolding later to_checkpoint swapped made made_all next cause causes first_standing bad_record any_under effect step recovery_step acts numbers_under perform_act perform_first stores_epoch advance advance_of line_of with_line field_index field_of with_field feed changed changed_at count_under fewer advanced checkpoint_step stepped nth_from nth_under bits_in bit_of with_bit contains added size nth strays digit_of unheld held holds_any held_from with_digit
seen-later = (refl, refl, refl, refl)

seen-run : (started.crashed ≡ false) × (taken RecoveryStart run.board && takes_test 4 (replicate 4 Step) (next RecoveryStart run.board) ≡ true) × (recovery_steps run.board.memory ≡ 4) × (run.machine.checkpointed (cell 1) ≡ 7)
unfolding run started later to_checkpoint swapped made made_all takes_test by_kind undo_steps next cause causes first_standing bad_record any_under effect step recovery_step acts numbers_under perform_act perform_first stores_epoch advance advance_of line_of with_line field_index field_of with_field feed changed changed_at count_under fewer advanced checkpoint_step stepped write_back_seen nth_from nth_under bits_in bit_of with_bit contains added size nth strays digit_of unheld held holds_any held_from with_digit
seen-run = (refl, refl, refl, refl)

seen-left : (left.state.lines ≡ 1) × (cause (Read 1) left ≡ 0) × (value_of (Read 1) left ≡ 3)
unfolding left run started later to_checkpoint swapped made made_all after_calls value_of value_read next cause causes first_standing bad_record any_under effect step recovery_step acts numbers_under perform_act perform_first stores_epoch advance advance_of line_of with_line field_index field_of with_field feed changed changed_at count_under fewer advanced checkpoint_step stepped write_back_seen nth_from nth_under bits_in bit_of with_bit contains added size nth strays digit_of unheld held holds_any held_from with_digit
seen-left = (refl, refl, refl)

refused : cause RecoveryStart swapped ≡ 14
unfolding swapped cause causes first_standing any_under field_index field_of count_under nth_from nth_under bits_in bit_of with_bit contains added size nth strays digit_of unheld held holds_any held_from with_digit
refused = refl

-- The checkpoint held 7 in cell 1; the recovery reads 3.
pub later-mark : LaterMark
unfolding left later started run swapped
later-mark =
    record {
      board = swapped;
      refused = refused;
      later = later;
      led = leads (unguarded swapped) to_checkpoint refl;
      checkpoint = seen-later.0;
      cell = 1;
      value = 9;
      begun = seen-later.1;
      due = seen-later.2;
      unlogged = seen-later.3;
      run = run;
      updated = leads started (Advance 0 ∷ WriteBack 1 ∷ []) seen-run.0;
      left = left;
      recovered = played-recovered run (replicate 4 Step) 4 seen-run.1 seen-run.2;
      wrong = λ f. omega (arith, wrong-value f, seen-run.3);
    }
  where
    wrong-value : ReadsCheckpointed run.machine left → 3 ≡ run.machine.checkpointed (cell 1)
    wrong-value f = (f 1 (subst (λ (l : ℕ). 1 < cells (shaped l)) (sym seen-left.0) (omega arith)) 0 3 _ (performing (Read 1) left seen-left.1 (sym seen-left.2) refl)).1
