-- THE THEOREMS about document 02, ticket 5: every statement of `specs/Foretold.antt`, proved.
use Prim.Native.Nat.{ℕ, ◌<◌}
use mathlib.Core.Path.{◌≡◌, refl, ap, subst, ◌∙◌}
use mathlib.Core.List.{List, map}
use mathlib.Core.Bool.{false}
use native.Mathlib.Omega.{arith}
use native.Mathlib.Decide.{dec_lt}
use lib.Dec.{leb}
use lib.ListN.{drop, length}
use borrow.Author.Tests.{eq-eqb, leb-false}
use Rattle.bitset.specs.Words.{capacity, contains, inserted}
use Rattle.bitset.proofs.Words.{contains-inserted, contains-other, past_words, size-count, length_inserted}
use Rattle.bitset.proofs.Members.{stray-none, none-strays, size-most}
use Rattle.line.specs.Cell.{cell_line}
use Rattle.board.specs.declared.Condition.{Condition}
use Rattle.board.specs.declared.Phase.TheVariants.{Running}
use Rattle.board.specs.declared.Call.TheVariants.{Advance, Count}
use Rattle.board.specs.Board.{Board, shape_of, cells}
use Rattle.board.specs.State.{updates}
use Rattle.board.specs.Causes.{cause, causes}
use Rattle.board.specs.Effects.{advance, advance_of, effect}
use Rattle.board.specs.Next.{Taken, taken, next, steps_of, value_counted, value_of}
use Rattle.board.specs.Sequence.{Run}
use Rattle.board.specs.Foretold.{MarkSets, DirtyLines, StrayBits, CountsBits, CountWithin, CountLeaves, ToRelease, Gathered, Foretold, StepsWrite, EachLineOnce}
use Rattle.predicate.proofs.Bools.{split, clash, chosen, passed_over}
use Rattle.board.proofs.Laws.Taken.{Clear, take, stands_at, passed, taken_next, performed-number, performed-value, performed-taken, limits-in, record-within, record-cells}
use Rattle.board.proofs.Laws.Reading.{in-phase, running-passes}
use Rattle.board.specs.Checkpoint.{planned, progress, acts}
use Rattle.board.proofs.Checkpoint.Run.{is-running}
use Rattle.board.proofs.Checkpoint.Ends.{all-quiescent}
use Rattle.board.proofs.Keeps.Every.{history-inv}
use Rattle.board.proofs.Checkpoint.Acts.{acts-length}
use Rattle.board.proofs.Foretold.Rising.{writes, planned-writes}
use Rattle.board.proofs.Foretold.Steps.{Waits, follow}

-- ---- 1. which lines are dirty

-- The mark's store sets the bit of the cell's line, and no other.
pub mark-sets : MarkSets
unfolding stands_at causes effect advance_of advance
mark-sets w c v b eight here t =
    let s = b.state in
    let l = cell_line c in
    let fine = passed (Advance w) b t 3 in
    let cell : c < cells (shape_of s) = leb-false (cells (shape_of s)) c (subst (λ (k : Condition). updates (leb (cells (shape_of s))) k ≡ false) here (record-cells s fine w (leb-false s.workers w (passed (Advance w) b t 6)))) in
    let same : (next (Advance w) b).state.dirty ≡ inserted s.dirty l = ap (λ (d : Board). d.state.dirty) (taken_next (Advance w) b t ∙ ap (λ (k : Condition). advance_of k w s b) here) in
    record {
      set = ap (λ (words : List ℕ). contains words l) same ∙ contains-inserted s.dirty l (omega (arith, eight, (limits-in (shape_of s) s.workers (record-within s fine).limits).lines));
      others = λ i o. ap (λ (words : List ℕ). contains words i) same ∙ contains-other s.dirty l i o;
      size = ap length same ∙ length_inserted s.dirty l;
    }

-- A running board's dirty lines are the lines with a marked cell.
pub dirty-lines : DirtyLines
dirty-lines r h d e =
    let v = (in-phase r (history-inv r h) d Running (is-running r.board.state.phase e)).0 in
    (λ i p. v.checkpoint.dirty.lines i p, v.checkpoint.dirty.own)

-- A record's bits stray exactly where one of them is no cell line's.
pub stray-bits : StrayBits
stray-bits words l eight small = (
  λ fine i t. elim (dec_lt i capacity) [ yes h ↦ stray-none words l fine i h t | no h ↦ absurd (clash t (past_words words i eight (omega arith))) ],
  none-strays words l small,
)

-- ---- 2. the count

-- The set bits are counted.
pub counts_bits : CountsBits
counts_bits = size-count

-- It changes nothing.
pub count-leaves : CountLeaves
unfolding next effect
count-leaves b = split (taken Count b) (λ t. chosen (taken Count b) b b t) (λ t. passed_over (taken Count b) b b t)

-- A taken count gives the steps.
count-value : (b : Board) → Taken Count b → value_of Count b ≡ steps_of b
unfolding value_of value_counted
count-value b t = chosen (taken Count b) (steps_of b) 0 (eq-eqb (cause Count b) 0 t)

-- It is 3 at least and L + 3 at most.
pub count-within : CountWithin
unfolding stands_at causes
count-within b b' value p =
    let s = b.state in
    let t = (performed-taken Count b p refl).0 in
    let fine = record-within s (passed Count b t 3) in
    let e = performed-value Count b p ∙ count-value b t in
    (omega (arith, e), omega (arith, e, size-most s.dirty s.lines fine.bits (omega (arith, (limits-in (shape_of s) s.workers fine.limits).lines))))

-- ---- 3. the count foretells the steps

module _ (r : Run) (g : Gathered r) where
  -- The board waits.
  waits : Waits r.board
  waits = record { phase = is-running r.board.state.phase g.running; workers = all-quiescent r.board.state g.waiting }

  -- No step was taken.
  unbegun : progress r.board.state ≡ 0
  unbegun =
      split r.board.state.requested
      (λ t. chosen r.board.state.requested r.board.state.place 0 t ∙ g.before t)
      (λ t. passed_over r.board.state.requested r.board.state.place 0 t)

  -- The count can be learned.
  count-taken : Taken Count r.board
  unfolding Clear causes
  count-taken =
      let y = running-passes r (history-inv r g.reached) g.uncut waits.phase in
      take Count r.board (y.phase, (y.state, (y.rows, tt)))

-- Learned where all workers wait or are away and no step was taken, the count is the number of steps up to and with the release.
pub foretold : Foretold
unfolding effect
foretold r g number value b p =
    let t = count-taken r g in
    let zero_number : number ≡ 0 = performed-number Count r.board p ∙ t in
    let same : b ≡ r.board = (performed-taken Count r.board p zero_number).1 in (
      zero_number,
      λ n b' calls.
          let f = follow (subst (λ (d : Board). ToRelease n d b') same calls) (waits r g) in
          omega (arith, f.count, acts-length r.board, unbegun r g, performed-value Count r.board p, count-value r.board t),
    )

-- ---- 4. each line once

-- Those steps write each dirty line once, rising, then line 0.
pub each-line-once : EachLineOnce
unfolding acts
each-line-once r g n b' calls =
    subst (StepsWrite calls) (ap (λ (p : ℕ). map writes (drop p (planned r.board))) (unbegun r g) ∙ planned-writes r.board) (follow calls (waits r g)).written
