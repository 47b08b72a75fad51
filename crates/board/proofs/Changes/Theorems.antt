-- THE THEOREMS about every taken call on any board, every page and every HEX text: `specs/Changes.antt`, proved.
use Prim.Native.Nat.{ℕ, ◌+◌}
use mathlib.Core.Path.{◌≡◌, refl, sym, ap, subst, ◌∙◌}
use mathlib.Core.List.{◌++◌}
use native.Mathlib.Omega.{arith}
use lib.Dec.{eqb}
use lib.ListN.{length, drop}
use borrow.Author.Tests.{ltb-false, eq-eqb, ne_eqb}
use Rattle.text.specs.Writing.{put}
use Rattle.board.specs.declared.Call.{Call}
use Rattle.board.specs.Board.{Board}
use Rattle.board.specs.Next.{next, Taken}
use Rattle.board.specs.declared.Call.TheVariants.{WriteBack}
use Rattle.board.specs.Causes.{causes}
use Rattle.board.specs.Effects.{effect}
use Rattle.board.specs.Page.{page_cause, page_left, PageOutcome}
use Rattle.board.specs.Changes.{Changes, EachCallChanges, page_of, PageChanges, HexWriteChanges, HexReadChanges, EightOfEach}
use Rattle.predicate.proofs.Bools.{chosen, passed_over}
use Rattle.board.proofs.Laws.Taken.{stands_at, passed, taken_next, ByEffect, quiet, the_format, the_recovery, the_step, the_update, the_restart, the_advance, the_request, the_write_back, the_going, the_coming, the_taking, the_giving, by-effect}
use Rattle.board.proofs.Laws.Quiet.{page-board}
use Rattle.board.proofs.Steps.Theorems.{format-begins, recovery-begins, requests, goes-away, comes_back_lem}
use Rattle.board.proofs.Locks.Theorems.{takes-lock, gives-lock-back}
use Rattle.board.proofs.Changes.Rows.{passed-sizes, line-written}
use Rattle.board.proofs.Changes.Workers.{update-notes, restart-notes, advance-changes}
use Rattle.board.proofs.Changes.Steps.{step-changes}
use Rattle.board.proofs.Changes.Hex.{write-changes, read-changes}

-- A taken call changes what is said of it, and nothing else.
call-changes : {k : Call} → ByEffect k → (b : Board) → EightOfEach b.state → Taken k b → Changes k b (next k b)
unfolding effect stands_at causes
call-changes {k} (quiet q) b eight t = subst (Changes k b) (sym (taken_next k b t ∙ q.leaves b)) (q.changes b)
call-changes (the_format l w) b eight t = format-begins l w b t
call-changes the_recovery b eight t = recovery-begins b t
call-changes the_step b eight t = step-changes b t
call-changes (the_update w c v) b eight t = update-notes w c v b eight t
call-changes (the_restart w v) b eight t = restart-notes w v b eight t
call-changes (the_advance w) b eight t = advance-changes w b eight t
call-changes the_request b eight t = requests b t
call-changes (the_write_back l) b eight t =
    let pass = passed (WriteBack l) b t in
    subst (Changes (WriteBack l) b) (sym (taken_next (WriteBack l) b t))
    (refl, line-written b b.state l (passed-sizes b (pass 3) (pass 4)) (ltb-false b.state.lines l (pass 7)))
call-changes (the_going w) b eight t = goes-away w b eight.worker t
call-changes (the_coming w) b eight t = comes_back_lem w b t
call-changes (the_taking w k) b eight t = let x = takes-lock w k b t in (x.1, (x.2, x.3))
call-changes (the_giving w k) b eight t = let x = gives-lock-back w k b t in (x.1, (x.2, x.3))

pub each-call-changes : EachCallChanges
each-call-changes k = call-changes (by-effect k)

-- A page changes the text row alone, and that only where it is taken.
pub page-changes : PageChanges
unfolding page_left
page-changes b b' text left number p =
    let n : number ≡ page_cause b text = ap (λ (o : PageOutcome). o.number) p in
    let kept : left ≡ page_left b text = ap (λ (o : PageOutcome). o.text) p in
    let ok = eqb (page_cause b text) 0 in
    let front : 0 + length (page_of b) ≡ length (page_of b) = omega arith in (
      page-board b text p,
      λ o. kept ∙ passed_over ok _ text (ne_eqb (page_cause b text) 0 (λ e. o (n ∙ e))),
      λ e. kept ∙ chosen ok (put text 0 (page_of b)) text (eq-eqb (page_cause b text) 0 (sym n ∙ e)) ∙ ap (λ (k : ℕ). page_of b ++ drop k text) front,
    )

-- Writing changes the text row alone, and that only where it is taken.
pub hex-write-changes : HexWriteChanges
hex-write-changes = write-changes

-- Reading changes the row of words alone, and that only where it is taken.
pub hex-read-changes : HexReadChanges
hex-read-changes = read-changes
