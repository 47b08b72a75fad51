-- A taken write-back keeps the invariant, in recovery and while running.
use Prim.Native.Nat.{ℕ, ◌+◌, ◌≤◌}
use mathlib.Core.Path.{◌≡◌, refl, sym, subst, ◌∙◌, ap}
use mathlib.Core.Logic.{inl}
use mathlib.Core.Bool.{Bool, true, false, ◌&&◌, ◌||◌, true≢false}
use native.Mathlib.Omega.{arith}
use lib.Dec.{leb, eqb}
use lib.ListN.{length}
use borrow.Author.Tests.{ltb-false, leb-true, eqb-true, eq-eqb, le-leb}
use Rattle.board.specs.declared.Phase.{Phase}
use Rattle.board.specs.declared.Phase.TheVariants.{Off, Formatting, Recovering, Running}
use Rattle.board.specs.declared.UndoStep.{UndoStep}
use Rattle.board.specs.declared.UndoStep.TheVariants.{Restore, Unmark, WriteLine}
use Rattle.board.specs.declared.Call.TheVariants.{WriteBack}
use Rattle.board.specs.Location.{Location}
use Rattle.board.specs.Board.{Board, Shape, epoch_of}
use Rattle.board.specs.State.{is_off, is_formatting}
use Rattle.board.specs.Causes.{causes, not_recovering_or_running}
use Rattle.board.specs.Effects.{written_back, backed, effect}
use Rattle.board.specs.Machine.{Machine, marked_count, completed, write_back_seen, feed}
use Rattle.board.specs.Sequence.{Run}
use Rattle.predicate.proofs.Bools.{on, passed_over, clash, and_left, and_right, and_both, and-off, and-off-right}
use Rattle.board.proofs.Laws.View.{View, view, sized-back, logs}
use Rattle.board.proofs.Invariant.{Lengths, AtPlace, RecoveryInv, Stage, early, gap, late, CheckpointPart, InPhase, Inv}
use Rattle.board.specs.Checkpoint.{acts}
use Rattle.board.proofs.Laws.Rows.{epoch-back, spare-back, own_same, sizes-same, sizes-back}
use Rattle.board.proofs.Laws.Taken.{stands_at, passed, after_taken, same_lines}
use Rattle.board.proofs.Laws.Reading.{some_left}
use Rattle.board.proofs.Checkpoint.Run.{Preserved, RunningRun, running-run}
use Rattle.board.proofs.Recovery.Rows.{restoring-own, restoring-back}
use Rattle.board.proofs.Checkpoint.Memory.{both-back, value-back, kept_back}
use Rattle.board.proofs.Checkpoint.Stages.{leaves-same, early-back, gap_back, late-back}
use Rattle.board.proofs.Checkpoint.Back.{back_run, quiet-back, header-back}
use Rattle.board.specs.Next.{Taken}

-- ---- recovering

-- What is known of a location at a recovery's place stays true once memory has the cache's view of it.
at-place-cache : (step : UndoStep) (u : Location) (e x : ℕ) (memory cache : View) → AtPlace step u e x memory cache → AtPlace step u e x cache cache
at-place-cache Restore u e x memory cache p = λ q. q
at-place-cache Unmark u e x memory cache p = p
at-place-cache WriteLine u e x memory cache p = p

-- A recovery's board after a write-back.
recovery-back : {σ : Shape} {xs : Location → ℕ} (b : Board) → Lengths σ b.memory b.cache → (i : ℕ) → i ≤ σ.lines → RecoveryInv σ xs b →
    RecoveryInv σ xs (backed i b.state b)
recovery-back {σ} {xs} b z i h v =
    let k = restoring-back v.rows i h in
    record {
      underway = v.underway;
      sizes = own_same (sizes-back b.memory b.cache z.memory z.cache i h v.sizes.header) (sizes-same b.cache) v.sizes;
      rows = restoring-own k;
      here = λ u a p.
          subst (λ (e : ℕ). AtPlace b.state.undo u e (xs u) (view (written_back i b) u) (view b.cache u)) (sym k.memory.epoch)
          (both-back b.memory b.cache z.memory z.cache (λ (w : View). AtPlace b.state.undo u (epoch_of b.memory) (xs u) w (view b.cache u)) i u h
          (at-place-cache b.state.undo u (epoch_of b.memory) (xs u) (view b.memory u) (view b.cache u) (v.here u a p))
          (v.here u a p));
    }

-- The machine sees a write-back complete the checkpoint.
abbrev completes : ℕ → Machine → Bool
completes i m = eqb i 0 && m.requested && leb (marked_count m + 1) m.steps

-- Only line 0's does, after the epoch's store while the request stands.
completes-parts : (i : ℕ) (m : Machine) → completes i m ≡ true → (i ≡ 0) × (m.requested ≡ true) × (marked_count m + 1 ≤ m.steps)
completes-parts i m t =
    let u = and_left (eqb i 0 && m.requested) (leb (marked_count m + 1) m.steps) t in
    (eqb-true i 0 (and_left (eqb i 0) m.requested u), and_right (eqb i 0) m.requested u, leb-true (marked_count m + 1) m.steps (and_right (eqb i 0 && m.requested) (leb (marked_count m + 1) m.steps) t))

-- Where it does not, after the epoch's store, the line is another.
completes-not : (i : ℕ) (m : Machine) → completes i m ≡ false → m.requested ≡ true → marked_count m + 1 ≤ m.steps → i ≡ 0 → ⊥
completes-not i m f on h z =
    clash
    (and_both (eqb i 0 && m.requested) (leb (marked_count m + 1) m.steps) (and_both (eqb i 0) m.requested (eq-eqb i 0 z) on) (le-leb (marked_count m + 1) m.steps h))
    f

-- Where no request stands the machine sees nothing of a write-back.
seen_none : (i : ℕ) (m : Machine) → m.requested ≡ false → write_back_seen i m ≡ m
unfolding write_back_seen
seen_none i m off =
    passed_over (completes i m) (completed m) m
    (and-off (eqb i 0 && m.requested) (leb (marked_count m + 1) m.steps) (and-off-right (eqb i 0) m.requested off))

-- A write-back in recovery.
carried-recovering : (r : Run) → Inv r → InPhase Recovering r → r.board.state.phase ≡ Recovering → (i : ℕ) → i ≤ r.machine.shape.lines →
    Preserved false r (after_taken (WriteBack i) r)
unfolding effect feed
carried-recovering r inv v e i h =
    let z = inv.sizes in
    let b = r.board in
    let after : Machine → Run = λ m. record { board = backed i b.state b; machine = m; crashed = r.crashed && true; erased = r.erased } in
    subst (λ (m : Machine). Preserved false r (after m)) (sym (seen_none i r.machine v.1.request))
    (record {
      keeps =
          record {
            sizes = record { limits = z.limits; memory = sized-back b.memory b.cache z.memory z.cache i h; cache = z.cache };
            kept = λ q. kept_back b.memory b.cache z.memory z.cache r.machine.checkpointed i h (λ k. v.0.rows.cache.epoch) v.0.rows.cache.header v.0.rows.cache.undoes (inv.kept v.2);
            lost = λ q. absurd (clash q v.2);
            phase = λ d. subst (λ (p : Phase). InPhase p (after r.machine)) (sym e) (recovery-back b z i h v.0, v.1, v.2);
          };
      completion =
          inl (record { board = record { shape = refl; header = sizes-back b.memory b.cache z.memory z.cache i h v.0.sizes.header; spare = spare-back b.memory b.cache z.memory z.cache i h v.0.rows.spare }; epoch = epoch-back b.memory b.cache z.memory z.cache i h (λ k. v.0.rows.cache.epoch); values = λ c p. refl });
    })

-- ---- running

-- A write-back while running.
carried-running : (r : Run) → RunningRun r → (i : ℕ) → i ≤ r.machine.shape.lines → Preserved false r (after_taken (WriteBack i) r)
unfolding effect feed write_back_seen
carried-running r s i h =
    on (λ (n : Machine). Preserved false r (record { board = backed i b.state b; machine = n; crashed = r.crashed && true; erased = r.erased }))
    (completes i m) (completed m) m
    (λ t. header (completes-parts i m t))
    (λ f. other f v.stage)
  where
    b : Board
    b = r.board

    m : Machine
    m = r.machine

    v : CheckpointPart m.shape b m
    v = s.running.checkpoint

    after : ℕ → (Location → ℕ) → Run
    after j xs = back_run r j b.state.place xs m.steps (r.crashed && true)

    header : (i ≡ 0) × (m.requested ≡ true) × (marked_count m + 1 ≤ m.steps) → Preserved false r (after i m.current)
    header p =
        let on : b.state.requested ≡ true = sym v.request ∙ p.1 in
        let past : length (acts b) ≤ 2 = omega (arith, v.steps on, p.2) in
        subst (λ (j : ℕ). Preserved false r (after j m.current)) (sym p.0)
        (header-back r s b.state.place m.steps (leaves-same b) v.steps (r.crashed && true) on past (some_left v.stage) past v.stage)

    quiet : (i ≡ 0 → epoch_of b.cache ≡ epoch_of b.memory) → Stage m.shape (backed i b.state b) m → Preserved false r (after i m.checkpointed)
    quiet e stage = quiet-back r s b.state.place m.steps (leaves-same b) v.steps (r.crashed && true) i h e m.checkpointed (λ u p. refl) stage

    other : completes i m ≡ false → Stage m.shape b m → Preserved false r (after i m.checkpointed)
    other f (early e) =
        let z = s.inv.sizes in
        quiet (λ q. e.epochs)
        (early (early-back b z i h b.state.place m.steps (leaves-same b) e.left e.waiting (λ u p o. value-back b.memory b.cache z.memory z.cache i u h (e.written u p o)) e))
    other f (gap g) =
        let o : i ≡ 0 → ⊥ = completes-not i m f (v.request ∙ g.request) (omega (arith, v.steps g.request, g.left)) in
        quiet (λ q. absurd (o q)) (gap (gap_back b s.inv.sizes i h o g))
    other f (late e) =
        let z = s.inv.sizes in
        quiet (λ q. e.epochs)
        (late (late-back b z i h m b.state.place m.checkpointed m.steps (leaves-same b) e.low e.high e.request
        (epoch-back b.memory b.cache z.memory z.cache i h (λ q. e.epochs) ∙ sym e.epochs) e.same e.waiting e.complete (λ u p. ap (λ (n : ℕ). logs u n (view b.cache u)) e.epochs ∙ e.unlogged u p)))

-- ---- every phase that takes it

-- What a taken write-back leaves.
pub carried-write-back : (r : Run) (i : ℕ) → Inv r → r.crashed ≡ false → Taken (WriteBack i) r.board → Preserved false r (after_taken (WriteBack i) r)
unfolding stands_at causes
carried-write-back r i inv d t = go r.board.state.phase refl
  where
    allowed : not_recovering_or_running r.board ≡ false
    allowed = passed (WriteBack i) r.board t 2

    line : i ≤ r.board.state.lines
    line = ltb-false r.board.state.lines i (passed (WriteBack i) r.board t 7)

    go : (p : Phase) → r.board.state.phase ≡ p → Preserved false r (after_taken (WriteBack i) r)
    go Off e = absurd (true≢false (subst (λ (p : Phase). is_off p || is_formatting p ≡ false) e allowed))
    go Formatting e = absurd (true≢false (subst (λ (p : Phase). is_off p || is_formatting p ≡ false) e allowed))
    go Recovering e =
        let v : InPhase Recovering r = subst (λ (p : Phase). InPhase p r) e (inv.phase d) in
        carried-recovering r inv v e i (omega (arith, line, same_lines v.0.underway.own.shape))
    go Running e =
        let s = running-run r inv d e in
        carried-running r s i (omega (arith, line, same_lines s.running.own.shape))
