-- A memory that recovery's start takes is shown: once it is recovered, no cause turns its page down.
use Rattle.std.proofs.Common.{◌≡◌, ℕ, zero, suc, Bool, true, false, ◌&&◌, ◌||◌, length, refl, ap, ◌∙◌, subst, arith, le-ltb}
use Rattle.board.specs.declared.Call.TheVariants.{RecoveryStart, Step, WriteBack}
use Rattle.board.specs.Board.{Board, shape_of}
use Rattle.board.specs.State.{is_recovering, is_running}
use Rattle.board.specs.Causes.{bad_record, causes, cause}
use Rattle.board.specs.Next.{Taken, next}
use Rattle.board.specs.Page.{page_bytes, page_causes, page_cause}
use Rattle.board.specs.Sequence.{Run, opening, taken_call, performs, History, begun, further, recovery_steps}
use Rattle.board.specs.Statements.{steps_from, AllTaken}
use Rattle.board.proofs.Theorems.{recovery-ends, write-back-answers, history-begins}
use Rattle.board.proofs.Laws.Taken.{numbered, Clear, first-clear, clear_first, performing}
use Rattle.predicate.proofs.Bools.{clash, not_on_lem}
use Rattle.console.specs.Printing.{largest_row, printed_of}
use Rattle.console.specs.Display.{AlwaysShown}
use Rattle.console.proofs.Pages.{largest_size, lines-fine}

-- A history with taken steps after it, its board the one that they leave.
record Stepped (b : Board) : Type 0 where
  pub run : Run
  pub history : History run
  pub whole : run.crashed ≡ false
  pub reached : run.board ≡ b

-- Taken steps go on a history.
steps_on_lem : (n : ℕ) (r : Run) → History r → r.crashed ≡ false → AllTaken n r.board → Stepped (steps_from n r.board)
unfolding AllTaken steps_from
steps_on_lem zero r h c all = record { run = r; history = h; whole = c; reached = refl }
steps_on_lem (suc n) r h c all =
    let b = r.board in
    steps_on_lem n (taken_call Step (next Step b) r)
    (further h (performs Step 0 _ (next Step b) (performing Step b all.0 refl refl) (λ t. absurd (clash t c))))
    (ap (λ (t : Bool). t && true) c) all.1

-- A running board that takes a write-back has its page taken.
page-taken : (b : Board) → is_running b.state.phase ≡ true → Taken (WriteBack 0) b → page_cause b largest_row ≡ 0
unfolding cause causes numbered Clear page_cause page_causes
page-taken b runs t =
    let clear = first-clear (causes (WriteBack 0) b) refl t in
    let fine : bad_record b.state ≡ false = clear.1.0 in
    clear_first (page_causes b largest_row)
    (not_on_lem (is_running b.state.phase) runs, (fine, (clear.1.1.0, (le-ltb (length largest_row) (page_bytes (shape_of b.state)) (omega (arith, largest_size, lines-fine b fine)), tt))))

-- A test that holds, behind another.
or-second : (a b : Bool) → b ≡ true → a || b ≡ true
or-second true b e = refl
or-second false b e = e

pub always-shown : AlwaysShown
unfolding printed_of
always-shown b t =
    let n = recovery_steps b.memory in
    let ends = recovery-ends b t in
    let on = steps_on_lem n (opening (next RecoveryStart b) _) (begun (history-begins.1 b t)) refl ends.0 in
    let last = on.run.board in
    let runs : is_running last.state.phase ≡ true = ap (λ (x : Board). is_running x.state.phase) on.reached ∙ ends.1 in
    let taken : Taken (WriteBack 0) last =
    (write-back-answers on.run on.history on.whole (or-second (is_recovering last.state.phase) (is_running last.state.phase) runs) 0).1 (omega arith) in
    subst (λ (x : Board). page_cause x largest_row ≡ 0) on.reached (page-taken last runs taken)
