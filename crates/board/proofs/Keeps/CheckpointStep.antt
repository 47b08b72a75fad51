-- A taken step of a requested checkpoint keeps the invariant, act by act.
use Prim.Native.Nat.{ℕ, ◌+◌, ◌≤◌, ◌<◌}
use mathlib.Core.Path.{◌≡◌, refl, sym, ap, subst, ◌∙◌}
use mathlib.Core.Logic.{⊎_elim}
use mathlib.Core.List.{List, [], ◌∷◌, Memᴰ}
use mathlib.Core.Bool.{true, false, ◌&&◌, false≢true}
use native.Mathlib.Omega.{arith}
use native.Mathlib.Decide.{ℕ_discrete}
use lib.ListN.{length, set}
use Rattle.bitset.specs.Words.{nth}
use Rattle.bitset.proofs.Members.{nth-own}
use Rattle.board.specs.Location.{Location, Has, line_for}
use Rattle.board.specs.declared.State.{State}
use Rattle.board.specs.declared.Condition.{Condition}
use Rattle.board.specs.declared.Condition.TheVariants.{Free, Waiting, Updating, Away}
use Rattle.board.specs.declared.Phase.TheVariants.{Running}
use Rattle.board.specs.declared.Call.TheVariants.{Step}
use Rattle.board.specs.Board.{Board, Shape, epoch_of}
use Rattle.board.specs.State.{condition_of, quiescent, after_release, placed, released, dirty_count}
use Rattle.board.specs.Checkpoint.{Act, write_line, store_epoch, write_header, release, progress, acts}
use Rattle.board.specs.Effects.{cached, stated, perform_act}
use Rattle.board.specs.Machine.{Unfinished, Machine, marked_count, counted, completed, dropped, checkpoint_step}
use Rattle.board.specs.Sequence.{Run}
use Rattle.board.proofs.Laws.View.{View, view, view-backed, view-header}
use Rattle.board.proofs.Invariant.{AllQuiescent, Undo, WorkerInv, Touches, WorkersPart, Lengths, Early, Late, Stage, early, gap, late, RunningInv, Inv}
use Rattle.board.proofs.Laws.Rows.{epoch-set, sized_set, header-set, spare-set, own_same, sizes-same, sizes-set}
use Rattle.board.proofs.Laws.Taken.{limits-in, after_taken}
use Rattle.board.proofs.Laws.Workers.{released-condition}
use Rattle.board.proofs.Laws.Dirty.{dirty-fine}
use Rattle.board.proofs.Laws.Parts.{unbegun-part}
use Rattle.board.proofs.Checkpoint.Memory.{value-back}
use Rattle.board.proofs.Checkpoint.Run.{Preserved, quietly, RunningRun, running-run, inv-running}
use Rattle.board.proofs.Checkpoint.Stages.{Leaves, early-back}
use Rattle.board.proofs.Checkpoint.Back.{quiet-back, header-back}
use Rattle.board.proofs.Checkpoint.Acts.{Remains, line_next, epoch_next, header_next, release_next, acts-next, none-pending, pending_next, machine-counts, machine-completes, machine-drops, acted, step-acts, step-ready}
use Rattle.board.specs.Next.{Taken}

-- ---- workers that wait or are away

-- Such a worker has no unfinished update, whatever the cache, and has none after the release.
quiescent-worker : (σ : Shape) (cache cache' : List ℕ) (d : Condition) (u : Unfinished) → quiescent d ≡ true → WorkerInv σ cache d u →
    WorkerInv σ cache' d u × WorkerInv σ cache' (after_release d) u
quiescent-worker σ cache cache' Free u w p = absurd (false≢true w)
quiescent-worker σ cache cache' Waiting u w p = (p, p)
quiescent-worker σ cache cache' (Updating next c v) u w p = absurd (false≢true w)
quiescent-worker σ cache cache' Away u w p = (p, p)

-- No worker has an unfinished update after the release.
released-touches : (k : Condition) (d : ℕ) → Touches (after_release k) d → ⊥
released-touches Free d t = t
released-touches Waiting d t = t
released-touches (Updating next c v) d t = t
released-touches Away d t = t

-- The workers after the release.
released-part : {σ : Shape} (s : State) {cache : List ℕ} {unfinished : ℕ → Unfinished} → s.workers ≤ 8 → AllQuiescent s →
    WorkersPart σ s.workers s.worker cache unfinished → WorkersPart σ s.workers (released s).worker cache unfinished
released-part {σ} s {cache} {unfinished} eight wait v =
    record {
      each = λ w h. subst (λ (d : Condition). WorkerInv σ cache d (unfinished w)) (sym (after w h)) (quiescent-worker σ cache cache (condition_of s w) (unfinished w) (wait w h) (v.each w h)).1;
      apart = λ w w' d h h' t t'. absurd (released-touches (condition_of s w) d (subst (λ (k : Condition). Touches k d) (after w h) t));
    }
  where
    after : (w : ℕ) → w < s.workers → condition_of (released s) w ≡ after_release (condition_of s w)
    after w h = released-condition s w (omega arith)

-- ---- the acts

module _ (r : Run) (s : RunningRun r) (on : r.board.state.requested ≡ true) (wait : AllQuiescent r.board.state) where
  abbrev b : Board
  b = r.board

  abbrev m : Machine
  m = r.machine

  abbrev σ : Shape
  σ = m.shape

  abbrev next : ℕ
  next = b.state.place + 1

  -- The machine's steps and the acts that are left are all steps of the checkpoint.
  steps : m.steps + length (acts b) ≡ marked_count m + 3
  steps = s.running.checkpoint.steps on

  -- W is at most 8.
  eight : b.state.workers ≤ 8
  eight = (limits-in σ b.state.workers s.running.own.limits).eight

  -- A step, from its act with what the machine sees of it.
  by-act : {act : Act} {later : List Act} (seen : Machine) → acts b ≡ act ∷ later → checkpoint_step m ≡ seen → Preserved false r (acted r act seen) →
      Preserved false r (after_taken Step r)
  by-act {act} seen p q o =
      subst (Preserved false r) (sym (step-acts r s.phase (s.running.checkpoint.request ∙ on) p ∙ ap (acted r act) q)) o

  -- One step more is counted, and one act fewer is left.
  one_fewer : {act : Act} {later : List Act} → acts b ≡ act ∷ later → b.state.requested ≡ true → m.steps + 1 + length later ≡ marked_count m + 3
  one_fewer p on = omega (arith, steps, ap length p)

  -- A dirty line written back.
  line-carried : {later : List Act} → acts b ≡ write_line (nth b.state.dirty (progress b.state)) ∷ later →
      progress b.state < dirty_count b.state → 3 ≤ length later → Early σ b m →
      Preserved false r (acted r (write_line (nth b.state.dirty (progress b.state))) (counted m))
  unfolding perform_act
  line-carried {later} p low three e =
      let z = s.inv.sizes in
      let i = nth b.state.dirty (progress b.state) in
      let h : i ≤ σ.lines = (nth-own b.state.dirty σ.lines (dirty-fine b.state.dirty m.marked s.running.checkpoint.dirty) (progress b.state) low).2 in
      let leaves : Leaves b next later = λ memory. acts-next b memory b.cache on p in
      quiet-back r s next (m.steps + 1) leaves (one_fewer p) (r.crashed && true) i h (λ q. e.epochs) m.checkpointed (λ u k. refl)
      (early (early-back b z i h next (m.steps + 1) leaves three (λ k. wait)
      (λ u k o. elim (ℕ_discrete (line_for u) i) [
        | yes q ↦ ap (λ (v : View). v.value) (view-backed b.memory b.cache z.memory z.cache i u h q)
        | no d ↦
            value-back b.memory b.cache z.memory z.cache i u h
            (e.written u k (λ n. ⊎_elim d o (pending_next (line_for u) i later (subst (Memᴰ (write_line (line_for u))) p n))))
      ]) e))

  -- The epoch stored.
  epoch-carried : acts b ≡ store_epoch ∷ write_header ∷ release ∷ [] → Early σ b m → Preserved false r (acted r store_epoch (counted m))
  unfolding perform_act
  epoch-carried p e =
      quietly (inv-running (acted r store_epoch (counted m)) s.on s.phase (record { limits = z.limits; memory = z.memory; cache = sized_set b.cache (epoch_of b.cache + 1) z.cache }) (s.inv.kept s.on)
      (record {
        own = v.own;
        rows =
            record {
              sizes = own_same (sizes-same b.memory) (sizes-set b.cache (epoch_of b.cache + 1)) v.rows.sizes;
              header = header-set b.cache (epoch_of b.cache + 1) z.cache (omega arith) v.rows.header;
              undoes = λ u h. subst (Undo u (epoch_of b.memory) (m.checkpointed u)) (sym (same u h)) (v.rows.undoes u h);
              current = λ u h. ap (λ (k : View). k.value) (same u h) ∙ v.rows.current u h;
              spare = spare-set b.memory b.cache (epoch_of b.cache + 1) v.rows.spare;
            };
        workers = record { each = λ w h. (quiescent-worker σ b.cache cache (condition_of b.state w) (m.unfinished w) (wait w h) (v.workers.each w h)).0; apart = v.workers.apart };
        checkpoint =
            record {
              request = v.checkpoint.request;
              dirty = v.checkpoint.dirty;
              steps = λ q. ap (λ (xs : List Act). m.steps + 1 + length xs) left ∙ one_fewer p q;
              stage =
                  gap (record {
                    request = on;
                    left = ap length left;
                    epochs = epoch-set b.cache (epoch_of b.cache + 1) z.cache ∙ ap (λ (n : ℕ). n + 1) e.epochs;
                    same = λ u h. e.written u h (λ n. none-pending (line_for u) (subst (Memᴰ (write_line (line_for u))) p n)) ∙ sym (ap (λ (k : View). k.value) (same u h));
                    waiting = wait;
                  });
            };
      })) refl refl (λ u. refl)
    where
      z : Lengths σ b.memory b.cache
      z = s.inv.sizes

      v : RunningInv σ b m
      v = s.running

      cache : List ℕ
      cache = set b.cache 0 (epoch_of b.cache + 1)

      left : acts (cached cache (placed b.state next b.state.undo) b) ≡ write_header ∷ release ∷ []
      left = acts-next b b.memory cache on p

      same : (u : Location) → Has σ u → view cache u ≡ view b.cache u
      same u h = view-header σ b.cache 0 (epoch_of b.cache + 1) u h (omega arith)

  -- Line 0 written back.
  header-step : acts b ≡ write_header ∷ release ∷ [] → Preserved false r (after_taken Step r)
  unfolding perform_act
  header-step p =
      by-act (completed (counted m)) p (machine-completes m (omega (arith, steps, ap length p)))
      (header-back r s next (m.steps + 1) (λ memory. acts-next b memory b.cache on p) (one_fewer p) (r.crashed && true) on (omega (arith, ap length p)) (omega arith) (omega arith) s.running.checkpoint.stage)

  -- The workers released.
  release-step : acts b ≡ release ∷ [] → Late σ b m → Preserved false r (after_taken Step r)
  unfolding perform_act
  release-step p e =
      let v = s.running in
      by-act (dropped (counted m)) p (machine-drops m (omega (arith, steps, ap length p)))
      (quietly (inv-running (acted r release (dropped (counted m))) s.on s.phase s.inv.sizes (s.inv.kept s.on)
      (record {
        own = record { shape = v.own.shape; limits = v.own.limits; holders = v.own.holders; eight = refl };
        rows = v.rows;
        workers = released-part b.state eight wait v.workers;
        checkpoint = unbegun-part (stated (released b.state) b) (dropped (counted m)) refl refl refl (λ u. refl) e.epochs e.unlogged e.same;
      })) refl refl (λ u. refl))

  -- A step, by the stage and the act that comes next.
  stage-step : (xs : List Act) → acts b ≡ xs → Remains b xs → Stage σ b m → Preserved false r (after_taken Step r)
  stage-step xs p (line_next later low three) (early e) = by-act (counted m) p (machine-counts m (omega (arith, steps, ap length p))) (line-carried p low three e)
  stage-step xs p epoch_next (early e) = by-act (counted m) p (machine-counts m (omega (arith, steps, ap length p))) (epoch-carried p e)
  stage-step xs p header_next (early e) = absurd (omega (arith, e.left, ap length p))
  stage-step xs p release_next (early e) = absurd (omega (arith, e.left, ap length p))
  stage-step xs p (line_next later low three) (gap g) = absurd (omega (arith, g.left, ap length p))
  stage-step xs p epoch_next (gap g) = absurd (omega (arith, g.left, ap length p))
  stage-step xs p header_next (gap g) = header-step p
  stage-step xs p release_next (gap g) = absurd (omega (arith, g.left, ap length p))
  stage-step xs p (line_next later low three) (late e) = absurd (omega (arith, e.high, ap length p))
  stage-step xs p epoch_next (late e) = absurd (omega (arith, e.high, ap length p))
  stage-step xs p header_next (late e) = header-step p
  stage-step xs p release_next (late e) = release-step p e

-- What a taken step of a running board leaves.
pub carried-checkpoint-step : (r : Run) → Inv r → r.crashed ≡ false → r.board.state.phase ≡ Running → Taken Step r.board →
    Preserved false r (after_taken Step r)
carried-checkpoint-step r inv d e t =
    let s = running-run r inv d e in
    let now = step-ready r.board e t in
    stage-step r s now.request now.waiting (acts r.board) refl now.left s.running.checkpoint.stage
