-- What a step changes, by the phase: of a format, a recovery and a checkpoint.
use Prim.Native.Nat.{ℕ, ◌+◌, ◌<◌}
use mathlib.Core.Path.{◌≡◌, refl, sym, ap, subst, ◌∙◌}
use mathlib.Core.Bool.{false}
use native.Mathlib.Omega.{arith}
use lib.Dec.{leb, ltb}
use lib.ListN.{get_or, replicate}
use borrow.Author.Tests.{ltb-false, le-leb, lt-leb, lt-ltb, le-ltb}
use Rattle.line.specs.declared.Field.{Field}
use Rattle.line.specs.Cell.{cell_line}
use Rattle.predicate.proofs.Bools.{chosen, passed_over, and-not, clash}
use Rattle.predicate.proofs.Passing.{Nth, nth-found}
use Rattle.bitset.specs.Words.{capacity, contains, nth}
use Rattle.bitset.proofs.Words.{size-count}
use Rattle.bitset.proofs.Members.{stray-none}
use Rattle.board.specs.declared.State.{State}
use Rattle.board.specs.declared.UndoStep.{UndoStep}
use Rattle.board.specs.declared.UndoStep.TheVariants.{Restore, Unmark, WriteLine}
use Rattle.board.specs.declared.Phase.{Phase}
use Rattle.board.specs.declared.Phase.TheVariants.{Off, Formatting, Recovering, Running}
use Rattle.board.specs.declared.Call.TheVariants.{Step}
use Rattle.board.specs.Board.{Board, shape_of, header_words, zero_words}
use Rattle.board.specs.Location.{stops}
use Rattle.board.specs.State.{placed, dirty_count, is_off}
use Rattle.board.specs.Checkpoint.{write_line, acts}
use Rattle.board.specs.Causes.{causes, place_past}
use Rattle.board.specs.Effects.{past_stop, format_step, perform_act, perform_first, step, effect}
use Rattle.board.specs.Next.{next, Taken}
use Rattle.board.specs.Steps.{OnlyLineInBoth}
use Rattle.board.specs.Changes.{WordStored, OnlyPlace, GoesOn, FormatStepped, PastCell, RecoveryStepped, DirtyWritten, LineWritten, CheckpointStepped, StepChanges}
use Rattle.board.proofs.Laws.Taken.{stands_at, passed, taken_next, record-within}
use Rattle.board.proofs.Format.Board.{erasing, finishing}
use Rattle.board.proofs.Recovery.Board.{recovery-cases}
use Rattle.board.proofs.Checkpoint.Acts.{effect-acts, step-ready, first-line, first-epoch, first-header}
use Rattle.board.proofs.Steps.Format.{only-line}
use Rattle.board.proofs.Steps.Recovery.{step-sizes, step-cell}
use Rattle.board.proofs.Steps.Opens.{opens, format-opens}
use Rattle.board.proofs.Steps.Workers.{releases}
use Rattle.board.proofs.Changes.Rows.{word-stored, field-word-read, field-word-stored, mark-logs, logs-mark, line-written}

-- The record with another place and step of a recovery.
only-placed : (s : State) (place : ℕ) (undo : UndoStep) → OnlyPlace place undo s (placed s place undo)
only-placed s place undo =
    record { place_after = refl; undo_after = refl; phase = refl; lines = refl; workers = refl; holders = refl; dirty = refl; request = refl; worker = refl }

-- What cause 3 lets pass of a step's place.
place-passed : (b : Board) (p : Phase) → b.state.phase ≡ p → Taken Step b → place_past p b.state ≡ false
unfolding stands_at causes
place-passed b p e t = subst (λ (q : Phase). place_past q b.state ≡ false) e (record-within b.state (passed Step b t 3)).place

-- ---- format

-- A format's step, by its place.
format-steps : (b : Board) → b.state.phase ≡ Formatting → Taken Step b → FormatStepped b (next Step b)
unfolding effect step format_step
format-steps b e t =
    let s = b.state in
    let z = step-sizes b t in
    let on = leb s.place s.lines in
    let now = taken_next Step b t ∙ ap (λ (p : Phase). step p s b) e in
    record {
      within = ltb-false (s.lines + 1) s.place (place-passed b Formatting e t);
      erases = λ h.
          subst (λ (d : Board). OnlyLineInBoth s.place (replicate 8 0) b d × GoesOn b d)
          (sym (now ∙ chosen on (erasing b) (finishing b) (le-leb s.place s.lines h))) (
            record { memory = only-line b.memory s.place zero_words z.memory h refl; cache = only-line b.cache s.place zero_words z.cache h refl },
            only-placed s (s.place + 1) s.undo,
          );
      ends = λ h. (
        let words = header_words 1 (shape_of s) s.workers in
            subst (λ (d : Board). OnlyLineInBoth 0 words b d) (sym (now ∙ passed_over on (erasing b) (finishing b) (lt-leb s.place s.lines (omega arith))))
            (record { memory = only-line b.memory 0 words z.memory (omega arith) refl; cache = only-line b.cache 0 words z.cache (omega arith) refl }),
        format-opens b e t h,
      );
    }

-- ---- recovery

-- A board with the record past the cell at the place.
past-cell : (b d : Board) → d.state ≡ past_stop b.state → PastCell b d
past-cell b d e =
    let s = b.state in
    let on = ltb (s.place + 1) (stops (shape_of s)) in
    record {
      goes_on = λ h. subst (OnlyPlace (s.place + 1) Restore s) (sym (e ∙ chosen on _ _ (lt-ltb _ _ h))) (only-placed s (s.place + 1) Restore);
      ends = λ h. opens s.dirty b d (e ∙ passed_over on _ _ (le-ltb _ _ h));
    }

-- A recovery's step, by the step that is next.
recovery-steps : (b : Board) → b.state.phase ≡ Recovering → Taken Step b → RecoveryStepped b.state.undo b.state.place b (next Step b)
recovery-steps b e t =
    let s = b.state in
    let c = s.place in
    let z = step-sizes b t in
    let here = step-cell b e t in
    subst (RecoveryStepped s.undo c b) (sym (taken_next Step b t))
    (recovery-cases (RecoveryStepped s.undo c b) b e
    (λ q g. is _ q (
      λ m. (field-word-stored b _ c Field.Record (omega arith) (field-word-read b.cache c Field.Backup refl) z here, only-placed s c Unmark),
      λ o. absurd (o (logs-mark b.cache c g)),
    ))
    (λ q g. is _ q (λ m. absurd (clash (mark-logs b.cache c m) g), λ o. (record { memory = refl; cache = refl }, past-cell b _ refl)))
    (λ q. is _ q (field-word-stored b _ c Field.Mark refl refl z here, only-placed s c WriteLine))
    (λ q. is _ q (line-written b _ (cell_line c) z (omega arith), past-cell b _ refl)))
  where
    -- by the step that the record says is next
    is : {u : UndoStep} (d : Board) → b.state.undo ≡ u → RecoveryStepped u b.state.place b d → RecoveryStepped b.state.undo b.state.place b d
    is d q h = subst (λ (x : UndoStep). RecoveryStepped x b.state.place b d) (sym q) h

-- ---- checkpoint

-- The p-th dirty line is one of the board's and is written.
dirty-written : (b : Board) (s : State) → Taken Step b → b.state.place < dirty_count b.state →
    DirtyWritten b.state.place b (perform_act (write_line (nth b.state.dirty b.state.place)) b.state b)
unfolding nth perform_act stands_at causes
dirty-written b s t h =
    let words = b.state.dirty in
    let found : Nth capacity (contains words) b.state.place (nth words b.state.place) =
    nth-found capacity (contains words) b.state.place (omega (arith, size-count words)) in
    let own = stray-none words b.state.lines (record-within b.state (passed Step b t 3)).bits
    (nth words b.state.place) found.within found.passes in
    record {
      line = nth words b.state.place;
      rank = record { set = found.passes; below = found.rank };
      written = line-written b _ (nth words b.state.place) (step-sizes b t) own.1;
    }

-- A checkpoint's step, by its place.
checkpoint-steps : (b : Board) → b.state.phase ≡ Running → Taken Step b → CheckpointStepped (dirty_count b.state) b (next Step b)
unfolding perform_act
checkpoint-steps b e t =
    let s = b.state in
    let on = (step-ready b e t).request in
    let z = step-sizes b t in
    let now : next Step b ≡ perform_first (acts b) s b = taken_next Step b t ∙ effect-acts b e refl in
    let goes = only-placed s (s.place + 1) s.undo in
    record {
      within = ltb-false (dirty_count s + 2) s.place (and-not s.requested (ltb (dirty_count s + 2) s.place) (place-passed b Running e t) on);
      lines = λ h. subst (λ (d : Board). DirtyWritten s.place b d × GoesOn b d) (sym (now ∙ first-line b on h)) (dirty-written b s t h, goes);
      epoch = λ h. subst (λ (d : Board). WordStored 0 (get_or b.cache 0 0 + 1) b d × GoesOn b d) (sym (now ∙ first-epoch b on h))
          (word-stored b _ 0 _ (omega (arith, z.cache.size)), goes);
      header = λ h. subst (λ (d : Board). LineWritten 0 b d × GoesOn b d) (sym (now ∙ first-header b on h)) (line-written b _ 0 z (omega arith), goes);
      release = λ h. releases b e t h;
    }

-- ---- every phase

-- A taken step, by the phase.
pub step-changes : (b : Board) → Taken Step b → StepChanges b.state.phase b (next Step b)
unfolding stands_at causes
step-changes b t = go b.state.phase refl
  where
    go : (p : Phase) → b.state.phase ≡ p → StepChanges p b (next Step b)
    go Off e = absurd (clash (ap is_off e) (passed Step b t 2))
    go Formatting e = format-steps b e t
    go Recovering e = recovery-steps b e t
    go Running e = checkpoint-steps b e t
