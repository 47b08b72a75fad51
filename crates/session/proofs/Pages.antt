-- A page of the board, and the text row that it is put into.
use Prim.Native.Nat.{ℕ, ◌≤◌}
use mathlib.Core.Path.{◌≡◌, sym, ap, subst, ◌∙◌}
use mathlib.Core.List.{List, ◌++◌}
use native.Mathlib.Omega.{arith}
use lib.Dec.{ltb}
use lib.ListN.{length, take, drop, length-append, length-drop}
use lib.Seq.{length-take-le}
use borrow.Author.Tests.{le-ltb}
use Rattle.board.specs.Board.{Board}
use Rattle.board.specs.Page.{PageOutcome, PagePerformed}
use Rattle.predicate.proofs.Bools.{passed_over}
use Rattle.script.specs.declared.Line.TheVariants as line
use Rattle.script.specs.declared.Shown.TheVariants.{Number}
use Rattle.damage.specs.Checksum.{checksum_of}
use Rattle.session.specs.Session.{Desk}
use Rattle.session.specs.Lines.{done, text_row, carried_out}
use Rattle.session.proofs.Parts.{take-replicate}

-- A row has its length once a part of it is back.
pub back-size : (n : ℕ) (row part : List ℕ) → n ≤ length row → length part ≡ length (take n row) → length (part ++ drop n row) ≡ length row
back-size n row part h e = omega (arith, length-append part (drop n row), length-drop n row, length-take-le n row h)

-- A page in the first bytes of a row, and their checksum.
pub page-shown : (d : Desk) (room number sum : ℕ) (row left : List ℕ) (after : Board) → room ≤ 70000 → row ≡ text_row 70000 →
    PagePerformed d.board (take room row) number after left →
    sum ≡ checksum_of left → done d (Number number) (Number sum) ≡ carried_out (line.Page room) d
page-shown d room number sum row left after h e p s =
    let b = d.board in
    let text : take room row ≡ text_row room = ap (take room) e ∙ take-replicate room 70000 170 h in
    let made : PagePerformed b (text_row room) number after left = subst (λ (t : List ℕ). PagePerformed b t number after left) text p in
    ap (λ (n : ℕ). done d (Number number) (Number n)) s
    ∙ ap (λ (o : PageOutcome). done d (Number o.number) (Number (checksum_of o.text))) made
    ∙ sym (passed_over (ltb 70000 room) _ _ (le-ltb 70000 room h))
