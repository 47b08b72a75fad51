-- The two starts set every field of the state record; a format's changes no row, a recovery's copies memory to cache. Which boards a recovery's takes.
use Prim.Native.Nat.{ℕ, ◌+◌, ◌≤◌, ◌<◌}
use mathlib.Core.Path.{◌≡◌, refl, sym, ap, subst}
use mathlib.Core.List.{List}
use mathlib.Core.Bool.{Bool, false, ◌&&◌}
use native.Mathlib.Omega.{arith}
use lib.Dec.{eqb}
use lib.ListN.{get_or}
use native.Mathlib.Decide.{ℕ_discrete}
use borrow.Author.Tests.{eqb-true}
use Rattle.line.specs.declared.Field.TheVariants.{Mark}
use Rattle.line.specs.Line.{line_start}
use Rattle.line.specs.Cell.{cell_line, cell_word, field_offset, field_index, field_of}
use Rattle.board.specs.declared.Phase.{Phase}
use Rattle.board.specs.declared.Phase.TheVariants.{Formatting, Recovering}
use Rattle.board.specs.declared.Call.TheVariants.{FormatStart, RecoveryStart}
use Rattle.board.specs.Board.{Board, shaped, shape_in, outside, epoch_of, lines_of, workers_of, rest_not_zero}
use Rattle.board.specs.State.{started}
use Rattle.board.specs.Effects.{cached, effect}
use Rattle.board.specs.Steps.{Begun, FormatBegins, RecoveryBegins, mark_word, Recoverable, RecoveryTakes}
use Rattle.board.specs.Next.{Taken}
use Rattle.predicate.proofs.Bools.{and_left, and_right, not-off}
use Rattle.board.proofs.Laws.Rows.{rest-zero}
use Rattle.board.proofs.Laws.Taken.{taken_next, shape-in, in-shape, limits-in, in-limits}
use Rattle.board.proofs.Recovery.Board.{started-header, started-rows}
use Rattle.board.proofs.Recovery.Starts.{recoverable-taken}
use Rattle.board.proofs.Keeps.RecoveryStart.{started-marks}
use Rattle.board.proofs.Laws.Workers.{free-condition}

-- A board with a record as the starts set it.
begun : (phase : Phase) (l w : ℕ) (cache : List ℕ) (b : Board) → Begun phase l w cache b (cached cache (started phase (shaped l) w) b)
begun phase l w cache b =
    record {
      in_phase = refl;
      lines = refl;
      workers = refl;
      unheld = refl;
      clean = refl;
      place = refl;
      undo = refl;
      request = refl;
      eight = refl;
      free = λ i. free-condition (started phase (shaped l) w) i refl;
      memory = refl;
      current = refl;
    }

-- A format's start changes no row.
pub format-begins : FormatBegins
unfolding effect
format-begins l w b t =
    subst (Begun Formatting l w b.cache b) (sym (taken_next (FormatStart l w) b t)) (begun Formatting l w b.cache b)

-- A recovery's start copies memory to cache.
pub recovery-begins : RecoveryBegins
unfolding effect
recovery-begins b t =
    subst (Begun Recovering (lines_of b.memory) (workers_of b.memory) b.memory b) (sym (taken_next RecoveryStart b t)) (begun Recovering (lines_of b.memory) (workers_of b.memory) b.memory b)

-- ---- what a recovery's start takes

-- A cell's mark is where 01 says.
mark-word : (row : List ℕ) (c : ℕ) → field_of row c Mark ≡ get_or row (mark_word c) 0
unfolding field_of field_index
mark-word row c = ap (λ (i : ℕ). get_or row i 0) (let e : line_start (cell_line c) + (cell_word c + field_offset Mark) ≡ mark_word c = omega arith in e)

-- What holds at 3 to 7 holds at each word after L and W.
after-sizes : (P : ℕ → Type 0) → P 3 → P 4 → P 5 → P 6 → P 7 → (k : ℕ) → 3 ≤ k → k < 8 → P k
after-sizes P a b c d e k low high =
    at 3 a (λ o. at 4 b (λ p. at 5 c (λ q. at 6 d (λ r. at 7 e (λ s. absurd (omega arith))))))
  where
    at : (j : ℕ) → P j → ((k ≡ j → ⊥) → P k) → P k
    at j h other =
        elim (ℕ_discrete k j) [
          | yes q ↦ subst P (sym q) h
          | no o ↦ other o
        ]

module _ (row : List ℕ) where
  -- The test of one word.
  abbrev zero : ℕ → Bool
  zero k = eqb (get_or row k 0) 0

  -- Where the test of words 3 to 7 passes, each is zero.
  words-zero : rest_not_zero row ≡ false → (k : ℕ) → 3 ≤ k → k < 8 → get_or row k 0 ≡ 0
  words-zero e =
      let all = not-off (zero 3 && zero 4 && zero 5 && zero 6 && zero 7) e in
      let four = and_left (zero 3 && zero 4 && zero 5 && zero 6) (zero 7) all in
      let three = and_left (zero 3 && zero 4 && zero 5) (zero 6) four in
      let two = and_left (zero 3 && zero 4) (zero 5) three in
      after-sizes (λ k. get_or row k 0 ≡ 0)
      (eqb-true (get_or row 3 0) 0 (and_left (zero 3) (zero 4) two))
      (eqb-true (get_or row 4 0) 0 (and_right (zero 3) (zero 4) two))
      (eqb-true (get_or row 5 0) 0 (and_right (zero 3 && zero 4) (zero 5) three))
      (eqb-true (get_or row 6 0) 0 (and_right (zero 3 && zero 4 && zero 5) (zero 6) four))
      (eqb-true (get_or row 7 0) 0 (and_right (zero 3 && zero 4 && zero 5 && zero 6) (zero 7) all))

  -- Where each is zero the test passes.
  zero_rest : ((k : ℕ) → 3 ≤ k → k < 8 → get_or row k 0 ≡ 0) → rest_not_zero row ≡ false
  zero_rest f =
      rest-zero (f 3 (omega arith) (omega arith)) (f 4 (omega arith) (omega arith)) (f 5 (omega arith) (omega arith)) (f 6 (omega arith) (omega arith)) (f 7 (omega arith) (omega arith))

-- A taken recovery start finds a board that can be recovered.
taken-recoverable : (b : Board) → Taken RecoveryStart b → Recoverable (lines_of b.memory) (workers_of b.memory) b
taken-recoverable b t =
    let header = started-header b t in
    let rows = started-rows b t in
    let limits = limits-in (shape_in b.memory) (workers_of b.memory) header.limits in
    record {
      lines_within = shape-in (shape_in b.memory) rows.limits;
      workers_within = (limits.some, limits.eight, limits.fewer);
      memory = rows.memory.size;
      cache = rows.cache.size;
      epoch = omega (arith, header.epoch);
      lines = refl;
      workers = refl;
      rest = words-zero b.memory header.rest;
      marks = λ c h. subst (λ (m : ℕ). m ≤ epoch_of b.memory) (mark-word b.memory c) (started-marks b t c h);
    }

-- A recovery's start takes a board that can be recovered.
recoverable-starts : (l w : ℕ) (b : Board) → Recoverable l w b → Taken RecoveryStart b
recoverable-starts l w b k =
    let shape = in-shape (shaped l) k.lines_within in
    let within = k.workers_within in
    recoverable-taken (shaped l) b
    (record { limits = shape; memory = record { size = k.memory }; cache = record { size = k.cache } })
    (record { epoch = k.epoch; shape = ap shaped k.lines; limits = subst (λ (n : ℕ). outside (shaped l) n ≡ false) (sym k.workers) (in-limits (shaped l) w shape within.0 within.1 within.2); rest = zero_rest b.memory k.rest })
    (λ c h. subst (λ (m : ℕ). m ≤ epoch_of b.memory) (sym (mark-word b.memory c)) (k.marks c h))

-- It takes those and no other.
pub recovery-takes : RecoveryTakes
recovery-takes b = (taken-recoverable b, recoverable-starts (lines_of b.memory) (workers_of b.memory) b)
