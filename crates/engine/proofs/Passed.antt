-- What a taken call has passed: from no cause to the bounds that its effect asks for.
use Prim.Native.Nat.{ℕ, ◌+◌, ◌≤◌, ◌<◌}
use mathlib.Core.Path.{◌≡◌, ap, subst, ◌∙◌}
use mathlib.Core.Bool.{true, false, not, ◌&&◌, ◌||◌}
use native.Mathlib.Omega.{arith}
use lib.Dec.{leb, ltb, eqb}
use lib.ListN.{length}
use borrow.Author.Tests.{ltb-false, leb-false, eqb-true, eqb-false, eq-eqb}
use Rattle.bitset.specs.Words.{strays}
use Rattle.line.specs.Line.{line_start}
use Rattle.line.specs.Cell.{cell_line}
use Rattle.board.specs.declared.State.{State}
use Rattle.board.specs.declared.Phase.{Phase}
use Rattle.board.specs.declared.Phase.TheVariants.{Formatting, Recovering, Running}
use Rattle.board.specs.declared.Store.{Store}
use Rattle.board.specs.declared.Condition.{Condition}
use Rattle.board.specs.declared.Condition.TheVariants.{Updating}
use Rattle.board.specs.declared.Call.{Call}
use Rattle.board.specs.Board.{Board, shaped, shape_of, cells, row_words, epoch_of, last_epoch}
use Rattle.board.specs.Checkpoint.{acts, stores_epoch}
use Rattle.board.proofs.Checkpoint.Acts.{epoch-next}
use Rattle.board.specs.State.{condition_of, is_running, quiescent, updates, any_worker, dirty_count}
use Rattle.board.specs.Causes.{causes, bad_record, bad_rows, place_past, no_worker, checkpointing, epoch_spent}
use Rattle.predicate.proofs.Bools.{or_left, or_right, and_both, and-not, not-off}
use Rattle.board.proofs.Laws.Taken.{stands_at, passed, limits-in, record-within, record-cells}
use Rattle.causes.proofs.Memory.{whole}
use Rattle.effects.specs.Bounds.{Rows, Restarts, Formats, Recovers, Checkpoints, Stores}
use Rattle.board.specs.Next.{Taken}

-- ---- the record and the rows

-- A state record that passes.
pub record Sound (s : State) : Type 0 where
  pub lines : s.lines ≤ 511
  pub workers : s.workers ≤ 8
  pub restart : s.workers < cells (shape_of s)
  pub dirty : strays s.dirty s.lines ≡ false
  pub place : place_past s.phase s ≡ false
  pub update : (w : ℕ) → w < s.workers → updates (leb (cells (shape_of s))) (condition_of s w) ≡ false

pub sound : (s : State) → bad_record s ≡ false → Sound s
sound s e =
    let known = record-within s e in
    let limits = limits-in (shape_of s) s.workers known.limits in
    record { lines = limits.lines; workers = limits.eight; restart = limits.fewer; dirty = known.bits; place = known.place; update = record-cells s e }

-- Rows that pass.
pub record Long (l : ℕ) (b : Board) : Type 0 where
  pub cache : length b.cache ≡ row_words l
  pub memory : length b.memory ≡ row_words l

pub long : (l : ℕ) (b : Board) → bad_rows l b ≡ false → Long l b
long l b e =
    let c = eqb (length b.cache) (row_words l) in
    let m = eqb (length b.memory) (row_words l) in
    record {
      cache = eqb-true (length b.cache) (row_words l) (not-off c (or_left (not c) (not m) e));
      memory = eqb-true (length b.memory) (row_words l) (not-off m (or_right (not c) (not m) e));
    }

-- ---- the starts

-- L and W of a taken format are within the limits.
pub format-limits : (l w : ℕ) (b : Board) → Taken (Call.FormatStart l w) b → (l ≤ 511) × (w ≤ 8)
unfolding stands_at causes
format-limits l w b t =
    let limits = limits-in (shaped l) w (passed (Call.FormatStart l w) b t 1) in
    (limits.lines, limits.eight)

-- A taken recovery has two rows of one length and a header within the limits.
pub recovery-restarts : (b : Board) → Taken Call.RecoveryStart b → Restarts b.memory b.cache
unfolding stands_at causes
recovery-restarts b t =
    let known = whole b (passed Call.RecoveryStart b t 4) (passed Call.RecoveryStart b t 5) in
    record { rows = known.cache; header = omega arith; lines = known.lines; workers = known.workers }

-- ---- the step, by phase

module _ (b : Board) (t : Taken Call.Step b) where
  step-sound : Sound b.state
  unfolding stands_at causes
  step-sound = sound b.state (passed Call.Step b t 3)

  step-long : Long b.state.lines b
  unfolding stands_at causes
  step-long = long b.state.lines b (passed Call.Step b t 4)

  step-rows : Rows b.state b.memory b.cache
  step-rows = record { limit = step-sound.lines; in_memory = step-long.memory; in_cache = step-long.cache }

  -- The place, where the phase is known.
  place_at : {phase : Phase} → b.state.phase ≡ phase → place_past phase b.state ≡ false
  place_at e = subst (λ (p : Phase). place_past p b.state ≡ false) e step-sound.place

  pub step-formats : b.state.phase ≡ Formatting → Formats b.state b.memory b.cache
  step-formats e = record { rows = step-rows; place = ltb-false _ _ (place_at e) }

  pub step-recovers : b.state.phase ≡ Recovering → Recovers b.state b.memory b.cache
  step-recovers e = record { rows = step-rows; place = leb-false _ _ (place_at e) }

  pub step-checkpoints : b.state.phase ≡ Running → Checkpoints b.state b.memory b.cache
  unfolding stands_at causes
  step-checkpoints e =
      let s = b.state in
      let running : is_running s.phase ≡ true = ap is_running e in
      let waits = any_worker s (λ condition. not (quiescent condition)) in
      let asked = not-off s.requested (or_left (not s.requested) waits (and-not (is_running s.phase) (not s.requested || waits) (passed Call.Step b t 10) running)) in
      let on = and_both (is_running s.phase) s.requested running asked in
      let n = dirty_count s in
      record {
        rows = step-rows;
        request = asked;
        lines = step-sound.dirty;
        place = ltb-false (n + 2) s.place (and-not s.requested (ltb (n + 2) s.place) (place_at e) asked);
        epoch = λ h. eqb-false (epoch_of b.cache) last_epoch (and-not (checkpointing s && stores_epoch (acts b)) (epoch_spent b) (passed Call.Step b t 11) (and_both (checkpointing s) (stores_epoch (acts b)) on (epoch-next b asked ∙ eq-eqb s.place n h)));
      }

-- ---- updates, restart points, advances

-- A worker under W and a cell under 2L can be stored by.
stores-of : (b : Board) (w c : ℕ) → Sound b.state → Long b.state.lines b → w < b.state.workers → c < cells (shape_of b.state) →
    Stores b.cache w c × (c < 1022)
stores-of b w c s l p q = (record { by_worker = omega arith; of_cell = omega arith; of_bit = omega arith }, omega arith)

pub update-stores : (w c v : ℕ) (b : Board) → Taken (Call.Update w c v) b → Stores b.cache w c × (c < 1022)
unfolding stands_at causes
update-stores w c v b t =
    let k = Call.Update w c v in
    stores-of b w c (sound b.state (passed k b t 3)) (long b.state.lines b (passed k b t 4))
    (leb-false b.state.workers w (passed k b t 6))
    (leb-false (cells (shape_of b.state)) c (or_right (ltb c b.state.workers) (leb (cells (shape_of b.state)) c) (passed k b t 7)))

pub restart-stores : (w v : ℕ) (b : Board) → Taken (Call.RestartPoint w v) b → Stores b.cache w w × (w < 1022)
unfolding stands_at causes
restart-stores w v b t =
    let k = Call.RestartPoint w v in
    let s = sound b.state (passed k b t 3) in
    let under = leb-false b.state.workers w (passed k b t 6) in
    stores-of b w w s (long b.state.lines b (passed k b t 4)) under (omega arith)

pub advance-stores : {c v : ℕ} {next : Store} (w : ℕ) (b : Board) → Taken (Call.Advance w) b → condition_of b.state w ≡ Updating next c v →
    Stores b.cache w c
unfolding stands_at causes
advance-stores {c} w b t e =
    let s = b.state in
    let k = Call.Advance w in
    let known = sound s (passed k b t 3) in
    let under = leb-false s.workers w (passed k b t 6) in
    let in-range = leb-false (cells (shape_of s)) c (subst (λ (x : Condition). updates (leb (cells (shape_of s))) x ≡ false) e (known.update w under)) in
    (stores-of b w c known (long s.lines b (passed k b t 4)) under in-range).0

-- ---- going away and coming back

-- A worker that is there is one of the eight.
seated : (w : ℕ) (b : Board) → bad_record b.state ≡ false → no_worker b.state w ≡ false → w < 8
seated w b r n = omega (arith, (sound b.state r).workers, leb-false b.state.workers w n)

pub go-away-seat : (w : ℕ) (b : Board) → Taken (Call.GoAway w) b → w < 8
unfolding stands_at causes
go-away-seat w b t = seated w b (passed (Call.GoAway w) b t 3) (passed (Call.GoAway w) b t 6)

pub come-back-seat : (w : ℕ) (b : Board) → Taken (Call.ComeBack w) b → w < 8
unfolding stands_at causes
come-back-seat w b t = seated w b (passed (Call.ComeBack w) b t 3) (passed (Call.ComeBack w) b t 6)

-- ---- locks

-- A taken lock is one of the 16, and its worker one of the eight.
pub take-lock-seat : (w k : ℕ) (b : Board) → Taken (Call.TakeLock w k) b → (w < 8) × (k < 16)
unfolding stands_at causes
take-lock-seat w k b t =
    let call = Call.TakeLock w k in
    (seated w b (passed call b t 3) (passed call b t 6), leb-false 16 k (passed call b t 15))

-- A lock that is given back is one of the 16.
pub give-back-number : (w k : ℕ) (b : Board) → Taken (Call.GiveBackLock w k) b → k < 16
unfolding stands_at causes
give-back-number w k b t = leb-false 16 k (passed (Call.GiveBackLock w k) b t 15)

-- ---- write-back and read

-- The line of a taken write-back is in both rows.
pub line-in-rows : (l : ℕ) (b : Board) → Taken (Call.WriteBack l) b → (line_start l + 8 ≤ length b.memory) × (line_start l + 8 ≤ length b.cache)
unfolding stands_at causes
line-in-rows l b t =
    let k = Call.WriteBack l in
    omega (arith, long b.state.lines b (passed k b t 4), ltb-false b.state.lines l (passed k b t 7))

-- The cell of a taken read is in the cache.
pub cell-in-cache : (c : ℕ) (b : Board) → Taken (Call.Read c) b → line_start (cell_line c) + 8 ≤ length b.cache
unfolding stands_at causes
cell-in-cache c b t =
    let k = Call.Read c in
    omega (arith, long b.state.lines b (passed k b t 4), leb-false (cells (shape_of b.state)) c (passed k b t 7))
