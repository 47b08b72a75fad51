-- What the start of an update and each of its stores change.
use Prim.Native.Nat.{ℕ, ◌<◌}
use mathlib.Core.Path.{◌≡◌, refl, sym, ap, subst, ◌∙◌}
use mathlib.Core.Bool.{true, false, ◌&&◌, false≢true}
use native.Mathlib.Omega.{arith}
use lib.Dec.{leb, ltb}
use lib.ListN.{length, get_or}
use borrow.Author.Tests.{leb-false}
use Rattle.line.specs.declared.Field.{Field}
use Rattle.line.specs.Cell.{cell_line}
use Rattle.board.specs.declared.State.{State}
use Rattle.board.specs.declared.Condition.{Condition}
use Rattle.board.specs.declared.Condition.TheVariants.{Free, Waiting, Updating, Away}
use Rattle.board.specs.declared.Store.{Store}
use Rattle.board.specs.declared.Store.TheVariants.{Backup, Mark, Record}
use Rattle.board.specs.declared.Call.TheVariants.{Update, RestartPoint, Advance}
use Rattle.board.specs.Board.{Board, shape_of, cells}
use Rattle.board.specs.Location.{cell, logged}
use Rattle.board.specs.State.{condition_of, conditioned, dirtied, updates, is_updating}
use Rattle.board.specs.Causes.{causes}
use Rattle.board.specs.Effects.{first_store, noted, after_last, advance, advance_of, effect}
use Rattle.board.specs.Next.{next, Taken}
use Rattle.board.specs.Steps.{OnlyCondition, OnlyWorker, record_word, mark_word}
use Rattle.board.specs.Changes.{EightOfEach, Noted, StoreDone, StoreMade, Advanced}
use Rattle.predicate.proofs.Bools.{chosen, passed_over, split, not-off}
use Rattle.board.proofs.Invariant.{Lengths}
use Rattle.board.proofs.Laws.Taken.{stands_at, passed, taken_next, eight-within, record-cells}
use Rattle.board.proofs.Laws.Workers.{busy-within}
use Rattle.board.proofs.Steps.Workers.{only-condition, only-worker, must, must-test}
use Rattle.board.proofs.Foretold.Theorems.{mark-sets}
use Rattle.board.proofs.Changes.Rows.{passed-sizes, field-word-read, field-word-stored, mark-logs, mark-logs-not}

-- ---- the start

-- An update noted is of that worker alone.
is-noted : (w c v : ℕ) (b : Board) → w < length b.state.worker → Noted w c v b (noted w c v b)
is-noted w c v b h =
    let put : (first : Store) → first_store b.cache c ≡ first → OnlyWorker w (Updating first c v) b (noted w c v b) =
    λ first e. subst (λ (n : Store). OnlyWorker w (Updating n c v) b (noted w c v b)) e (only-worker w (Updating (first_store b.cache c) c v) b h) in
    record {
      one = λ m. put Record (chosen (logged b.cache (cell c)) Record Backup (mark-logs b.cache c m));
      three = λ o. put Backup (passed_over (logged b.cache (cell c)) Record Backup (mark-logs-not b.cache c o));
    }

-- A taken update's start.
pub update-notes : (w c v : ℕ) (b : Board) → EightOfEach b.state → Taken (Update w c v) b → Noted w c v b (next (Update w c v) b)
unfolding effect stands_at causes
update-notes w c v b eight t =
    let pass = passed (Update w c v) b t in
    subst (Noted w c v b) (sym (taken_next (Update w c v) b t))
    (is-noted w c v b (omega (arith, eight.worker, eight-within b.state (pass 3), leb-false b.state.workers w (pass 6))))

-- A taken restart point's start.
pub restart-notes : (w v : ℕ) (b : Board) → EightOfEach b.state → Taken (RestartPoint w v) b → Noted w w v b (next (RestartPoint w v) b)
unfolding effect stands_at causes
restart-notes w v b eight t =
    let pass = passed (RestartPoint w v) b t in
    subst (Noted w w v b) (sym (taken_next (RestartPoint w v) b t))
    (is-noted w w v b (omega (arith, eight.worker, eight-within b.state (pass 3), leb-false b.state.workers w (pass 6))))

-- ---- the stores

-- A bit set beside leaves what is said of the conditions.
condition-dirtied : {w : ℕ} {k : Condition} {s s' : State} (l : ℕ) → OnlyCondition w k s s' → OnlyCondition w k s (dirtied s' l)
condition-dirtied l o =
    record {
      worker = o.worker;
      others = o.others;
      eight = o.eight;
      phase = o.phase;
      lines = o.lines;
      workers = o.workers;
      holders = o.holders;
      place = o.place;
      undo = o.undo;
      request = o.request;
    }

module _ (w c v : ℕ) (b : Board) (z : Lengths (shape_of b.state) b.memory b.cache)
    (seat : w < length b.state.worker) (in-board : c < cells (shape_of b.state)) where
  -- "backup := record".
  backup-made : StoreMade Backup w c v b (advance Backup w c v b.state b)
  unfolding advance
  backup-made = (
    record {
      word = field-word-stored b _ c Field.Backup refl (field-word-read b.cache c Field.Record (omega arith)) z in-board;
      worker = only-condition w (Updating Mark c v) b.state seat;
    },
    refl,
  )

  -- "mark := epoch".
  mark_made : StoreDone (mark_word c) (get_or b.cache 0 0) w (Updating Record c v) b (advance Mark w c v b.state b)
  unfolding advance
  mark_made =
      record {
        word = field-word-stored b _ c Field.Mark refl refl z in-board;
        worker = condition-dirtied (cell_line c) (only-condition w (Updating Record c v) b.state seat);
      }

  -- "record := value", and the worker's condition after it.
  record-made : StoreMade Record w c v b (advance Record w c v b.state b)
  unfolding advance
  record-made =
      let s = b.state in
      let test = ltb c s.workers && s.requested in
      let put : (k : Condition) → after_last s c ≡ k → StoreDone (record_word c) v w k b (advance Record w c v s b) =
      λ k e. record {
        word = field-word-stored b _ c Field.Record (omega arith) refl z in-board;
        worker = subst (λ (d : Condition). OnlyCondition w d s (conditioned s w (after_last s c))) e (only-condition w (after_last s c) s seat);
      } in (
        λ m. put Waiting (chosen test Waiting Free (must-test b c m)),
        λ o. put Free (split test (λ t. absurd (o (must b c t))) (λ t. passed_over test Waiting Free t)),
        refl,
      )

-- A taken advance makes the store that is next.
pub advance-changes : (w : ℕ) (b : Board) → EightOfEach b.state → Taken (Advance w) b → Advanced w b (next (Advance w) b)
unfolding effect advance_of stands_at causes
advance-changes w b eight t = go (condition_of s w) refl (not-off (is_updating (condition_of s w)) (pass 8))
  where
    s : State
    s = b.state

    pass : (n : ℕ) → stands_at n (causes (Advance w) b) ≡ false
    pass = passed (Advance w) b t

    made : (store : Store) (c v : ℕ) → condition_of s w ≡ Updating store c v → next (Advance w) b ≡ advance store w c v s b →
        StoreMade store w c v b (next (Advance w) b)
    made store c v here same =
        let z = passed-sizes b (pass 3) (pass 4) in
        let seat = busy-within s w refl here in
        let in-board : c < cells (shape_of s) =
        leb-false (cells (shape_of s)) c
        (subst (λ (k : Condition). updates (leb (cells (shape_of s))) k ≡ false) here (record-cells s (pass 3) w (leb-false s.workers w (pass 6)))) in
        by store here same z seat in-board
      where
        by : (n : Store) → condition_of s w ≡ Updating n c v → next (Advance w) b ≡ advance n w c v s b →
            Lengths (shape_of s) b.memory b.cache → w < length s.worker → c < cells (shape_of s) →
            StoreMade n w c v b (next (Advance w) b)
        by Backup e q z seat i = subst (StoreMade Backup w c v b) (sym q) (backup-made w c v b z seat i)
        by Mark e q z seat i =
            (subst (StoreDone (mark_word c) (get_or b.cache 0 0) w (Updating Record c v) b) (sym q) (mark_made w c v b z seat i), mark-sets w c v b eight.words e t)
        by Record e q z seat i = subst (StoreMade Record w c v b) (sym q) (record-made w c v b z seat i)

    go : (k : Condition) → condition_of s w ≡ k → is_updating k ≡ true → Advanced w b (next (Advance w) b)
    go Free e on = absurd (false≢true on)
    go Waiting e on = absurd (false≢true on)
    go (Updating store c v) e on =
        record {
          store = store;
          cell = c;
          value = v;
          update = e;
          made = made store c v e (taken_next (Advance w) b t ∙ ap (λ (k : Condition). advance_of k w s b) e);
        }
    go Away e on = absurd (false≢true on)
