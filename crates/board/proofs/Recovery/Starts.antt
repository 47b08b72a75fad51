-- A recovery can be started where rows, header and marks pass: so on any memory of a history that no format has begun to erase.
use Prim.Native.Nat.{ℕ, ◌-◌, ◌/◌, ◌%◌, ◌≤◌, ◌<◌}
use mathlib.Core.Path.{◌≡◌, refl, sym, subst, ◌∙◌}
use mathlib.Core.List.{List}
use mathlib.Core.Bool.{Bool, true, false, cond, not, ◌&&◌, ◌||◌}
use native.Mathlib.Omega.{arith}
use lib.Dec.{leb, eqb}
use lib.ListN.{length}
use borrow.Author.Tests.{eq-eqb, ne_eqb, le-leb}
use Rattle.line.specs.declared.Field.TheVariants.{Mark}
use Rattle.line.specs.Cell.{field_of}
use Rattle.board.specs.declared.Call.TheVariants.{RecoveryStart}
use Rattle.board.specs.Board.{Board, Shape, shape_in, cells, outside, epoch_of, lines_of, workers_of, rest_not_zero}
use Rattle.board.specs.Causes.{causes, first_standing, cause, bad_recovery_rows, bad_header}
use Rattle.board.specs.Sequence.{Run}
use Rattle.predicate.proofs.Bools.{split, chosen, passed_over, or-none, and_both, not_on_lem}
use Rattle.board.proofs.Invariant.{Inv, Header, Lengths}
use Rattle.board.specs.Location.{cell}
use Rattle.board.proofs.Laws.View.{Sized, view-stamp}
use Rattle.board.proofs.Laws.Taken.{shape-in, same_lines, bounds-later}
use Rattle.board.specs.Next.{Taken}

-- The rows of a board pass recovery's test.
rows_pass : (σ : Shape) (b : Board) → Lengths σ b.memory b.cache → bad_recovery_rows b ≡ false
rows_pass σ b z =
    let lim = shape-in σ z.limits in
    let m = z.memory.size in
    let k = z.cache.size in
    let n = length b.memory in
    or-none (not (eqb (n % 8) 0 && leb 16 n && leb n 4096)) (not (eqb (length b.cache) n))
    (not_on_lem (eqb (n % 8) 0 && leb 16 n && leb n 4096)
    (and_both (eqb (n % 8) 0 && leb 16 n) (leb n 4096) (and_both (eqb (n % 8) 0) (leb 16 n) (eq-eqb (n % 8) 0 (omega arith)) (le-leb 16 n (omega arith))) (le-leb n 4096 (omega arith))))
    (not_on_lem (eqb (length b.cache) n) (eq-eqb (length b.cache) n (k ∙ sym m)))

-- A good header passes recovery's test.
header-passes : (σ : Shape) (row : List ℕ) → Sized σ row → Header σ row → bad_header row ≡ false
header-passes σ row z h =
    let size = z.size in
    or-none _ (rest_not_zero row)
    (or-none _ (outside (shape_in row) (workers_of row))
    (or-none (eqb (epoch_of row) 0) (not (eqb (lines_of row) (length row / 8 - 1)))
    (ne_eqb (epoch_of row) 0 (λ e. omega (arith, h.epoch)))
    (not_on_lem (eqb (lines_of row) (length row / 8 - 1)) (eq-eqb (lines_of row) (length row / 8 - 1) (omega (arith, same_lines h.shape)))))
    (subst (λ (τ : Shape). outside τ (workers_of row) ≡ false) (sym h.shape) h.limits))
    h.rest

-- A recovery's start is taken on rows of the right lengths with such a header and such marks.
pub recoverable-taken : (σ : Shape) (b : Board) → Lengths σ b.memory b.cache → Header σ b.memory →
    ((c : ℕ) → c < cells σ → field_of b.memory c Mark ≤ epoch_of b.memory) → Taken RecoveryStart b
unfolding cause causes first_standing
recoverable-taken σ b z h bounded =
    rw (rows_pass σ b z, header-passes σ b.memory z.memory h) (passed_over _ 14 0 (bounds-later _ b.memory (λ c p. omega (arith, bounded c (subst (λ (τ : Shape). c < cells τ) h.shape p)))))

-- After any history it is taken unless memory is being erased.
pub start-taken : (r : Run) → Inv r → r.erased ≡ false → Taken RecoveryStart r.board
start-taken r i e =
    let k = i.kept e in
    let row = r.board.memory in
    recoverable-taken r.machine.shape r.board i.sizes k.header (λ c h. omega (arith, (k.undoes (cell c) h).fit, view-stamp row c))

-- Where memory is being erased its header says that there is no board.
erased-header : (row : List ℕ) → epoch_of row ≡ 0 → bad_header row ≡ true
erased-header row e =
    subst (λ (t : Bool). t || not (eqb (lines_of row) (length row / 8 - 1)) || outside (shape_in row) (workers_of row) || rest_not_zero row ≡ true) (sym (eq-eqb (epoch_of row) 0 e)) refl

-- A recovery's start is answered by 0, or by 5 where memory is being erased.
pub start-answer : (r : Run) → Inv r → cause RecoveryStart r.board ≡ cond r.erased 5 0
unfolding cause causes first_standing
start-answer r i =
    split r.erased
    (λ e. rw (rows_pass r.machine.shape b i.sizes, erased-header b.memory (i.lost e)) (sym (chosen r.erased 5 0 e)))
    (λ e. start-taken r i e ∙ sym (passed_over r.erased 5 0 e))
  where
    b : Board
    b = r.board
