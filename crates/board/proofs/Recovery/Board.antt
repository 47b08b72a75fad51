-- A recovery's step by cases, and what every state record of a recovery has.
use Prim.Native.Nat.{ℕ, ◌+◌, ◌-◌, ◌/◌, ◌%◌, ◌≤◌, ◌<◌}
use mathlib.Core.Path.{◌≡◌, refl, sym, subst}
use mathlib.Core.List.{List}
use mathlib.Core.Bool.{true, false, not, ◌&&◌, ◌||◌}
use native.Mathlib.Omega.{arith}
use lib.Dec.{leb, ltb, eqb}
use lib.ListN.{length}
use borrow.Author.Tests.{ltb-true, ltb-false, leb-true, eqb-true, eqb-false}
use Rattle.board.specs.declared.State.{State}
use Rattle.board.specs.declared.UndoStep.{UndoStep}
use Rattle.board.specs.declared.UndoStep.TheVariants.{Restore, Unmark, WriteLine}
use Rattle.board.specs.declared.Phase.{Phase}
use Rattle.board.specs.declared.Phase.TheVariants.{Recovering}
use Rattle.board.specs.declared.Call.TheVariants.{RecoveryStart, Step}
use Rattle.board.specs.Board.{Board, Shape, shape_of, shape_in, row_words, shape_outside, outside, epoch_of, lines_of, workers_of, rest_not_zero}
use Rattle.board.specs.Location.{stops, stop_line, undoes, restored, unmarked}
use Rattle.board.specs.State.{placed, opened}
use Rattle.board.specs.Effects.{cached, stated, backed, stop_of, past_stop, recovery_step, step, effect}
use Rattle.board.specs.Causes.{causes, bad_recovery_rows, bad_header}
use Rattle.predicate.proofs.Bools.{on, or_left, or_right, and_left, and_right, not-off}
use Rattle.board.proofs.Invariant.{Underway, Lengths}
use Rattle.board.proofs.Laws.Taken.{stands_at, passed, shape-in, limits-in}
use Rattle.board.specs.Next.{Taken}

-- ---- the step by cases

-- What holds of each outcome of a recovery's step holds of what the step leaves.
pub recovery-cases {ℓ} : (P : Board → Type ℓ) (b : Board) → b.state.phase ≡ Recovering →
    (b.state.undo ≡ Restore → undoes b.cache (stop_of b.state) ≡ true → P (cached (restored b.cache (stop_of b.state)) (placed b.state b.state.place Unmark) b)) →
    (b.state.undo ≡ Restore → undoes b.cache (stop_of b.state) ≡ false → P (stated (past_stop b.state) b)) →
    (b.state.undo ≡ Unmark → P (cached (unmarked b.cache (stop_of b.state)) (placed b.state b.state.place WriteLine) b)) →
    (b.state.undo ≡ WriteLine → P (backed (stop_line (stop_of b.state)) (past_stop b.state) b)) →
    P (effect Step b)
unfolding effect step recovery_step
recovery-cases P b e restores passes unmarks writes =
    subst (λ (p : Phase). P (step p b.state b)) (sym e) (go b.state.undo refl)
  where
    go : (u : UndoStep) → b.state.undo ≡ u → P (recovery_step u b.state b)
    go Restore q = on P (undoes b.cache (stop_of b.state)) _ _ (restores q) (passes q)
    go Unmark q = unmarks q
    go WriteLine q = writes q

-- Past a cell a recovery goes on to the next one, or ends.
pub past_cases {ℓ} : (P : State → Type ℓ) (s : State) →
    (s.place + 1 < stops (shape_of s) → P (placed s (s.place + 1) Restore)) →
    (stops (shape_of s) ≤ s.place + 1 → P (opened s s.dirty)) →
    P (past_stop s)
past_cases P s f g =
    on P (ltb (s.place + 1) (stops (shape_of s))) _ _ (λ t. f (ltb-true _ _ t)) (λ t. g (ltb-false _ _ t))

-- ---- the state record

-- The record with another place has it.
pub underway-placed : {σ : Shape} {s : State} (place : ℕ) (undo : UndoStep) → place < stops σ → Underway σ s → Underway σ (placed s place undo)
underway-placed place undo h u = record { own = u.own; clean = u.clean; request = u.request; free = u.free; within = h }

-- The record that a recovery ends in has it.
pub underway-opened : {σ : Shape} {s : State} → 0 < stops σ → Underway σ s → Underway σ (opened s s.dirty)
underway-opened h u =
    let own = u.own in
    record { own = record { shape = own.shape; limits = own.limits; holders = own.holders; eight = refl }; clean = u.clean; request = u.request; free = refl; within = h }

-- A board within the limits has a stop.
pub some-stop : (σ : Shape) → shape_outside σ ≡ false → 0 < stops σ
some-stop σ e = omega (arith, shape-in σ e)

-- ---- a taken start

-- What a header that passes its test has.
pub record HeaderPasses (row : List ℕ) : Type 0 where
  pub epoch : epoch_of row ≡ 0 → ⊥
  pub lines : lines_of row ≡ length row / 8 - 1
  pub limits : outside (shape_in row) (workers_of row) ≡ false
  pub rest : rest_not_zero row ≡ false

pub header-passed : (row : List ℕ) → bad_header row ≡ false → HeaderPasses row
header-passed row e =
    let epoch = eqb (epoch_of row) 0 in
    let lines = eqb (lines_of row) (length row / 8 - 1) in
    let limits = outside (shape_in row) (workers_of row) in
    let up_to3 : epoch || not lines || limits ≡ false = or_left (epoch || not lines || limits) (rest_not_zero row) e in
    let up_to2 : epoch || not lines ≡ false = or_left (epoch || not lines) limits up_to3 in
    record {
      epoch = eqb-false _ _ (or_left epoch (not lines) up_to2);
      lines = eqb-true _ _ (not-off lines (or_right epoch (not lines) up_to2));
      limits = or_right (epoch || not lines) limits up_to3;
      rest = or_right (epoch || not lines || limits) (rest_not_zero row) e;
    }

-- So has memory's where a recovery start is taken.
pub started-header : (b : Board) → Taken RecoveryStart b → HeaderPasses b.memory
unfolding stands_at causes
started-header b t = header-passed b.memory (passed RecoveryStart b t 5)

-- What the lengths of rows that pass their test are, on memory of `l` lines.
passed-lengths : (m k l : ℕ) → not (eqb (m % 8) 0 && leb 16 m && leb m 4096) || not (eqb k m) ≡ false → l ≡ m / 8 - 1 →
    (1 ≤ l) × (l ≤ 511) × (m ≡ row_words l) × (k ≡ row_words l)
passed-lengths m k l e q =
    let whole = eqb (m % 8) 0 in
    let low = leb 16 m in
    let high = leb m 4096 in
    let same = eqb k m in
    let three : whole && low && high ≡ true = not-off (whole && low && high) (or_left (not (whole && low && high)) (not same) e) in
    let two : whole && low ≡ true = and_left (whole && low) high three in
    omega (
      arith,
      eqb-true k m (not-off same (or_right (not (whole && low && high)) (not same) e)),
      leb-true m 4096 (and_right (whole && low) high three),
      leb-true 16 m (and_right whole low two),
      eqb-true (m % 8) 0 (and_left whole low two),
    )

-- Rows and a header that pass their tests: the rows have the lengths that the header's L asks.
pub rows-passed : (b : Board) → bad_recovery_rows b ≡ false → bad_header b.memory ≡ false → Lengths (shape_in b.memory) b.memory b.cache
rows-passed b r h =
    let header = header-passed b.memory h in
    let z = passed-lengths (length b.memory) (length b.cache) (lines_of b.memory) r header.lines in
    record { limits = (limits-in (shape_in b.memory) (workers_of b.memory) header.limits).shape; memory = record { size = z.2 }; cache = record { size = z.3 } }

-- So a taken recovery start finds them.
pub started-rows : (b : Board) → Taken RecoveryStart b → Lengths (shape_in b.memory) b.memory b.cache
unfolding stands_at causes
started-rows b t = rows-passed b (passed RecoveryStart b t 4) (passed RecoveryStart b t 5)
