-- When a write-back and a read are taken, on any board that a history leads to.
use Prim.Native.Nat.{ℕ, ◌*◌, ◌≤◌, ◌<◌}
use mathlib.Core.Path.{◌≡◌, refl, sym, subst}
use mathlib.Core.Logic.{◌↔◌}
use mathlib.Core.Bool.{true, false, ◌||◌, false≢true}
use borrow.Author.Tests.{ltb-false, le-ltb, leb-false, lt-leb}
use Rattle.board.specs.declared.Phase.{Phase}
use Rattle.board.specs.declared.Phase.TheVariants.{Off, Formatting, Recovering, Running}
use Rattle.board.specs.declared.Call.TheVariants.{Step, WriteBack, Read}
use Rattle.board.specs.Board.{Board, shape_of, cells}
use Rattle.board.specs.State.{is_off, is_formatting, is_recovering, is_running}
use Rattle.board.specs.Causes.{causes, not_recovering_or_running, bad_record, bad_rows}
use Rattle.board.specs.Sequence.{Run}
use Rattle.board.proofs.Invariant.{Inv}
use Rattle.board.proofs.Laws.Taken.{Clear, stands_at, passed, take}
use Rattle.board.proofs.Laws.Reading.{running-passes}
use Rattle.board.proofs.Checkpoint.Run.{is-running}
use Rattle.board.proofs.Recovery.Ends.{step-taken}
use Rattle.board.specs.Next.{Taken}

-- A recovering or running board passes the tests of phase, record and rows that a write-back has.
record WritePasses (b : Board) : Type 0 where
  phase : not_recovering_or_running b ≡ false
  state : bad_record b.state ≡ false
  rows : bad_rows b.state.lines b ≡ false

write-passes : (r : Run) → Inv r → r.crashed ≡ false →
    is_recovering r.board.state.phase || is_running r.board.state.phase ≡ true → WritePasses r.board
unfolding stands_at causes
write-passes r i d on = go r.board.state.phase refl on
  where
    phases : (p : Phase) → r.board.state.phase ≡ p → is_off p || is_formatting p ≡ false → not_recovering_or_running r.board ≡ false
    phases p e h = subst (λ (q : Phase). is_off q || is_formatting q ≡ false) (sym e) h

    go : (p : Phase) → r.board.state.phase ≡ p → is_recovering p || is_running p ≡ true → WritePasses r.board
    go Off e h = absurd (false≢true h)
    go Formatting e h = absurd (false≢true h)
    go Recovering e h =
        let t = step-taken r i d e in
        record { phase = phases Recovering e refl; state = passed Step r.board t 3; rows = passed Step r.board t 4 }
    go Running e h =
        let y = running-passes r i d e in
        record { phase = phases Running e refl; state = y.state; rows = y.rows }

-- A write-back is taken exactly of the board's lines.
pub write-back-answers : (r : Run) → Inv r → r.crashed ≡ false → is_recovering r.board.state.phase || is_running r.board.state.phase ≡ true →
    (l : ℕ) → Taken (WriteBack l) r.board ↔ (l ≤ r.board.state.lines)
unfolding Clear stands_at causes
write-back-answers r i d on l =
    let b = r.board in
    let y = write-passes r i d on in (
      λ t. ltb-false b.state.lines l (passed (WriteBack l) b t 7),
      λ h. take (WriteBack l) b (y.phase, (y.state, (y.rows, (le-ltb b.state.lines l h, tt)))),
    )

-- A read is taken exactly of the board's cells.
pub read-answers : (r : Run) → Inv r → r.crashed ≡ false → is_running r.board.state.phase ≡ true →
    (c : ℕ) → Taken (Read c) r.board ↔ (c < 2 * r.board.state.lines)
unfolding Clear stands_at causes
read-answers r i d on c =
    let b = r.board in
    let y = running-passes r i d (is-running b.state.phase on) in (
      λ t. leb-false (cells (shape_of b.state)) c (passed (Read c) b t 7),
      λ h. take (Read c) b (y.phase, (y.state, (y.rows, (lt-leb (cells (shape_of b.state)) c h, tt)))),
    )
