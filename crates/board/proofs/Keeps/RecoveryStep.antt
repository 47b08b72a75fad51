-- A taken step of a recovery keeps the invariant; the last one leaves a running board.
use Prim.Native.Nat.{ℕ, ◌+◌, ◌≤◌, ◌<◌}
use mathlib.Core.Path.{◌≡◌, refl, sym, ap, subst, ◌∙◌}
use mathlib.Core.Logic.{inl}
use mathlib.Core.List.{List}
use mathlib.Core.Bool.{Bool, true, false, ◌&&◌}
use native.Mathlib.Omega.{arith}
use Rattle.line.specs.Line.{line_of, with_line}
use Rattle.board.specs.declared.State.{State}
use Rattle.board.specs.declared.UndoStep.{UndoStep}
use Rattle.board.specs.declared.UndoStep.TheVariants.{Restore, Unmark, WriteLine}
use Rattle.board.specs.declared.Phase.{Phase}
use Rattle.board.specs.declared.Phase.TheVariants.{Recovering}
use Rattle.board.specs.declared.Call.TheVariants.{Step}
use Rattle.board.specs.Board.{Board, Shape, epoch_of}
use Rattle.board.specs.Location.{Location, Has, stops, stop_at, stop_line, undoes, restored, unmarked}
use Rattle.board.specs.State.{placed, opened}
use Rattle.board.specs.Effects.{written_back, stop_of, past_stop, effect}
use Rattle.board.specs.Machine.{Machine, counted, stepped, feed}
use Rattle.board.specs.Sequence.{Run, erased_by}
use Rattle.predicate.proofs.Bools.{passed_over, clash, and-off}
use Rattle.board.proofs.Laws.View.{view, logs, place_of, place-among, view-backed}
use Rattle.board.proofs.Invariant.{Undo, Underway, Restoring, Lengths, SameSizes, Own, Here, RecoveryInv, RecoveryMachine, RunningInv, InPhase, Inv}
use Rattle.board.proofs.Laws.Taken.{after_taken}
use Rattle.board.proofs.Recovery.Board.{recovery-cases, past_cases, underway-placed, underway-opened}
use Rattle.board.proofs.Laws.Parts.{free_part, unbegun-part}
use Rattle.board.proofs.Laws.Rows.{epoch-back-other, spare-back, own_same, sizes-same, sizes-back}
use Rattle.board.specs.Statements.{Unchanged}
use Rattle.board.proofs.Checkpoint.Run.{Preserved, quiet}
use Rattle.board.proofs.Recovery.Stops.{only-restored, only-unmarked, stop-line, stop-holds, undoes-logs, restored-undo, unmarked-undo}
use Rattle.board.proofs.Recovery.Rows.{whole-epoch, whole-kept, restoring-own, restoring-only, restoring-back, restoring-past}

-- ---- the machine

-- The run with another board and one more step counted.
abbrev step_run : Run → Board → Run
step_run r b = record { board = b; machine = counted r.machine; crashed = r.crashed; erased = r.erased }

-- In a recovery the machine counts a step, and nothing else.
after-step : (r : Run) → RecoveryMachine r.machine → step_run r (effect Step r.board) ≡ after_taken Step r
unfolding feed stepped
after-step r m =
    λ i. record { board = effect Step r.board; machine = machine i; crashed = crashed r.crashed i; erased = erased i }
  where
    machine : counted r.machine ≡ stepped r.machine
    machine =
        sym (passed_over r.machine.requested _ _ m.request ∙ passed_over _ _ (counted r.machine) (and-off r.machine.formatting _ m.formatting))

    crashed : (d : Bool) → d ≡ d && true
    crashed true = refl
    crashed false = refl

    erased : r.erased ≡ erased_by Step r.machine r.erased
    erased = sym (passed_over _ _ r.erased (and-off r.machine.formatting _ m.formatting))

-- ---- the two kinds of board that a step leaves

-- Where a recovery has passed every stop, the board can run.
running : {σ : Shape} (b : Board) (m : Machine) → RecoveryMachine m → Underway σ b.state → Own b.state.workers b.memory b.cache →
    Restoring σ (epoch_of b.memory) m.checkpointed (stops σ) b.memory b.cache → RunningInv σ b m
running {σ} b m v u sizes k =
    let plain : (t : Location) → Has σ t → (view b.cache t).value ≡ m.checkpointed t = λ t h. (k.cache.undoes t h).plain (k.stamps.passed_cache t h (place-among σ t h)) in
    record {
      own = u.own;
      rows = record { sizes = sizes; header = k.cache.header; undoes = k.cache.undoes; current = λ t h. plain t h ∙ sym (v.current t); spare = k.spare };
      workers = free_part b.state b.cache u.free v.unfinished;
      checkpoint =
          unbegun-part b m v.request u.request u.clean v.marked k.cache.epoch
          (λ t h. k.stamps.passed_cache t h (place-among σ t h))
          (λ t h. (k.memory.undoes t h).plain (k.stamps.passed_memory t h (place-among σ t h)) ∙ sym (plain t h));
    }

-- ---- the steps

module _ (r : Run) (m : RecoveryMachine r.machine) (off : r.erased ≡ false) (on : r.board.state.phase ≡ Recovering) (lengths : Lengths r.machine.shape r.board.memory r.board.cache) (u : Underway r.machine.shape r.board.state) (own : Own r.board.state.workers r.board.memory r.board.cache) where
  -- The board with other rows and another state record.
  abbrev left : State → List ℕ → List ℕ → Board
  left s memory cache = record { state = s; memory = memory; cache = cache }

  -- What holds in every phase holds of a recovery's rows.
  every-phase : {e place : ℕ} (s : State) (memory cache : List ℕ) → Restoring r.machine.shape e r.machine.checkpointed place memory cache →
      InPhase s.phase (step_run r (left s memory cache)) → Inv (step_run r (left s memory cache))
  every-phase s memory cache k p =
      record {
        sizes = record { limits = lengths.limits; memory = k.memory.sized; cache = k.cache.sized };
        kept = λ t. whole-kept k.memory;
        lost = λ t. absurd (clash t off);
        phase = λ t. p;
      }

  -- The machine beside the recovery after the step.
  counting : RecoveryMachine (counted r.machine)
  counting = record { request = m.request; formatting = m.formatting; current = m.current; marked = m.marked; unfinished = m.unfinished }

  -- A step after which the recovery goes on.
  goes_on : {e : ℕ} (place : ℕ) (undo : UndoStep) (memory cache : List ℕ) → SameSizes r.board.memory memory → SameSizes r.board.cache cache →
      place < stops r.machine.shape → Restoring r.machine.shape e r.machine.checkpointed place memory cache →
      Here r.machine.shape undo place e r.machine.checkpointed memory cache → Inv (step_run r (left (placed r.board.state place undo) memory cache))
  goes_on place undo memory cache sm sc h k here =
      every-phase (placed r.board.state place undo) memory cache k
      (subst (λ (p : Phase). InPhase p (step_run r (left (placed r.board.state place undo) memory cache))) (sym on) (
        record {
          underway = underway-placed place undo h u;
          sizes = own_same sm sc own;
          rows = restoring-own k;
          here = subst (λ (n : ℕ). Here r.machine.shape undo place n r.machine.checkpointed memory cache) (sym k.memory.epoch) here;
        },
        counting,
        off,
      ))

  -- The step that ends the recovery.
  ends : {e : ℕ} (memory cache : List ℕ) → SameSizes r.board.memory memory → SameSizes r.board.cache cache →
      Restoring r.machine.shape e r.machine.checkpointed (stops r.machine.shape) memory cache →
      Inv (step_run r (left (opened r.board.state r.board.state.dirty) memory cache))
  ends memory cache sm sc k =
      let s = opened r.board.state r.board.state.dirty in
      every-phase s memory cache k
      (running (left s memory cache) (counted r.machine) counting (underway-opened (omega (arith, u.within)) u) (own_same sm sc own) (restoring-own k), off)

  -- A step past the cell at the place.
  goes-past : {e : ℕ} (memory cache : List ℕ) → SameSizes r.board.memory memory → SameSizes r.board.cache cache →
      Restoring r.machine.shape e r.machine.checkpointed r.board.state.place memory cache →
      ((u : Location) → Has r.machine.shape u → place_of u ≡ r.board.state.place → (logs u e (view cache u) ≡ false) × (logs u e (view memory u) ≡ false)) →
      Inv (step_run r (left (past_stop r.board.state) memory cache))
  goes-past {e} memory cache sm sc k off =
      past_cases (λ (s : State). Inv (step_run r (left s memory cache))) r.board.state
      (λ h. goes_on (r.board.state.place + 1) Restore memory cache sm sc (subst (λ (τ : Shape). r.board.state.place + 1 < stops τ) u.own.shape h) (restoring-past k off) (λ t a q. k.stamps.ahead t a (omega arith)))
      (λ h. ends memory cache sm sc
      (let q : r.board.state.place + 1 ≡ stops r.machine.shape = omega (arith, u.within, subst (λ (τ : Shape). stops τ ≤ r.board.state.place + 1) u.own.shape h) in
      subst (λ (n : ℕ). Restoring r.machine.shape e r.machine.checkpointed n memory cache) q (restoring-past k off)))

-- A test that is not passed fails.
not_so : (t : Bool) → (t ≡ true → ⊥) → t ≡ false
not_so true f = absurd (f refl)
not_so false f = refl

module _ {σ : Shape} {e place : ℕ} {xs : Location → ℕ} {memory cache : List ℕ} (k : Restoring σ e xs place memory cache) where
  -- A stop with nothing to undo has no location that is logged.
  pass_step : undoes cache (stop_at σ place) ≡ false → (u : Location) → Has σ u → place_of u ≡ place → logs u e (view cache u) ≡ false
  pass_step t u h q = undoes-logs σ cache u k.cache.epoch (subst (λ (n : ℕ). undoes cache (stop_at σ n) ≡ false) (sym q) t)

  -- The old value put back: the rows are kept, and each location there has its value.
  restore-step : place < stops σ → undoes cache (stop_at σ place) ≡ true →
      Restoring σ e xs place memory (restored cache (stop_at σ place)) × ((u : Location) → Has σ u → place_of u ≡ place → (view (restored cache (stop_at σ place)) u).value ≡ xs u)
  restore-step w t = (restoring-only k _ (only-restored σ place cache w) (λ u h q. (each u h q).0), λ u h q. (each u h q).1)
    where
      each : (u : Location) → Has σ u → place_of u ≡ place →
          Undo u e (xs u) (view (restored cache (stop_at σ place)) u) × ((view (restored cache (stop_at σ place)) u).value ≡ xs u)
      each u h q =
          subst (λ (n : ℕ). undoes cache (stop_at σ n) ≡ true → Undo u e (xs u) (view (restored cache (stop_at σ n)) u) × ((view (restored cache (stop_at σ n)) u).value ≡ xs u)) q
          (λ on. restored-undo σ cache u k.cache.sized h k.cache.epoch on (k.cache.undoes u h)) t

  -- The log dropped: the rows are kept, and no location there is logged.
  unmark-step : place < stops σ → ((u : Location) → Has σ u → place_of u ≡ place → (view cache u).value ≡ xs u) →
      Restoring σ e xs place memory (unmarked cache (stop_at σ place)) × ((u : Location) → Has σ u → place_of u ≡ place → logs u e (view (unmarked cache (stop_at σ place)) u) ≡ false)
  unmark-step w has = (restoring-only k _ (only-unmarked σ place cache w) (λ u h q. (each u h q).0), λ u h q. (each u h q).1)
    where
      each : (u : Location) → Has σ u → place_of u ≡ place →
          Undo u e (xs u) (view (unmarked cache (stop_at σ place)) u) × (logs u e (view (unmarked cache (stop_at σ place)) u) ≡ false)
      each u h q =
          subst (λ (n : ℕ). Undo u e (xs u) (view (unmarked cache (stop_at σ n)) u) × (logs u e (view (unmarked cache (stop_at σ n)) u) ≡ false)) q
          (unmarked-undo σ cache u k.cache.sized h (whole-epoch k.cache) (has u h q))

  -- The stop's line written back: the rows are kept, and no location there is logged in memory.
  write_step : place < stops σ → ((u : Location) → Has σ u → place_of u ≡ place → logs u e (view cache u) ≡ false) →
      Restoring σ e xs place (with_line memory (stop_line (stop_at σ place)) (line_of cache (stop_line (stop_at σ place)))) cache
      × ((u : Location) → Has σ u → place_of u ≡ place → logs u e (view (with_line memory (stop_line (stop_at σ place)) (line_of cache (stop_line (stop_at σ place)))) u) ≡ false)
  write_step h off =
      let i = stop_line (stop_at σ place) in
      let z = stop-line σ place h in (
        restoring-back k i z.1,
        λ u a q. ap (logs u e) (view-backed memory cache k.memory.sized k.cache.sized i u z.1 (stop-holds σ u a ∙ ap (λ (n : ℕ). stop_line (stop_at σ n)) q)) ∙ off u a q,
      )

-- What is known of the locations at the place, by the step that is next.
here-at : {σ : Shape} {xs : Location → ℕ} {b : Board} (undo : UndoStep) → RecoveryInv σ xs b → b.state.undo ≡ undo →
    Here σ undo b.state.place (epoch_of b.memory) xs b.memory b.cache
here-at {σ} {xs} {b} undo i q = subst (λ (y : UndoStep). Here σ y b.state.place (epoch_of b.memory) xs b.memory b.cache) q i.here

-- A taken step of a recovery keeps the invariant.
keeps-recovery-step : (r : Run) → Inv r → r.crashed ≡ false → r.board.state.phase ≡ Recovering → Inv (after_taken Step r)
keeps-recovery-step r inv lit phase =
    let s = r.board.state in
    let p = subst (λ (p : Phase). InPhase p r) phase (inv.phase lit) in
    let i = p.0 in
    let u = i.underway in
    let h = u.within in
    let k = i.rows in
    subst Inv (after-step r p.1)
    (recovery-cases (λ (b : Board). Inv (step_run r b)) r.board phase
    (λ q y.
    let a = restore-step k h y in
    goes_on r p.1 p.2 phase inv.sizes u i.sizes s.place Unmark r.board.memory (restored r.board.cache (stop_of s)) (sizes-same r.board.memory) (λ n v w. (only-restored r.machine.shape s.place r.board.cache h).header n w) h a.0 a.1)
    (λ q y.
    let off = pass_step k y in
    goes-past r p.1 p.2 phase inv.sizes u i.sizes r.board.memory r.board.cache (sizes-same r.board.memory) (sizes-same r.board.cache) k
    (λ t a e. (off t a e, not_so _ (λ z. clash (here-at Restore i q t a e z) (off t a e)))))
    (λ q.
    let a = unmark-step k h (here-at Unmark i q) in
    goes_on r p.1 p.2 phase inv.sizes u i.sizes s.place WriteLine r.board.memory (unmarked r.board.cache (stop_of s)) (sizes-same r.board.memory) (λ n v w. (only-unmarked r.machine.shape s.place r.board.cache h).header n w) h a.0 a.1)
    (λ q.
    let a = write_step k h (here-at WriteLine i q) in
    goes-past r p.1 p.2 phase inv.sizes u i.sizes (written_back (stop_line (stop_of s)) r.board) r.board.cache (sizes-back r.board.memory r.board.cache inv.sizes.memory inv.sizes.cache (stop_line (stop_of s)) (stop-line r.machine.shape s.place h).1 i.sizes.header) (sizes-same r.board.cache) a.0
    (λ t b e. (here-at WriteLine i q t b e, a.1 t b e))))

-- The run after a recovery's step has the last checkpoint and the sizes of the run before it.
recovery-unchanged : (r : Run) → Inv r → r.crashed ≡ false → r.board.state.phase ≡ Recovering → Unchanged r (step_run r (effect Step r.board))
recovery-unchanged r inv lit phase =
    let i = (subst (λ (p : Phase). InPhase p r) phase (inv.phase lit)).0 in
    let b = r.board in
    let z = inv.sizes in
    let line = stop-line r.machine.shape b.state.place i.underway.within in
    recovery-cases (λ (d : Board). Unchanged r (step_run r d)) b phase
    (λ q y. quiet r (step_run r _) refl refl (λ c. refl))
    (λ q y. quiet r (step_run r _) refl refl (λ c. refl))
    (λ q. quiet r (step_run r _) refl refl (λ c. refl))
    (λ q. record {
      board = record { shape = refl; header = sizes-back b.memory b.cache z.memory z.cache (stop_line (stop_of b.state)) line.1 i.sizes.header; spare = spare-back b.memory b.cache z.memory z.cache (stop_line (stop_of b.state)) line.1 i.rows.spare };
      epoch = epoch-back-other b.memory b.cache z.memory z.cache (stop_line (stop_of b.state)) line.0 line.1;
      values = λ c h. refl;
    })

-- A taken step of a recovery keeps the invariant and changes nothing of the last checkpoint.
pub carried-recovery-step : (r : Run) → Inv r → r.crashed ≡ false → r.board.state.phase ≡ Recovering → Preserved false r (after_taken Step r)
carried-recovery-step r inv lit phase =
    record {
      keeps = keeps-recovery-step r inv lit phase;
      completion =
          inl (subst (Unchanged r) (after-step r (subst (λ (p : Phase). InPhase p r) phase (inv.phase lit)).1) (recovery-unchanged r inv lit phase));
    }
