-- A taken request keeps the invariant; when one is taken.
use Prim.Native.Nat.{ℕ}
use mathlib.Core.Path.{◌≡◌, refl, sym, ap, subst, ◌∙◌}
use mathlib.Core.List.{Memᴰ}
use mathlib.Core.Bool.{true, false, cond}
use lib.Dec.{eqb}
use native.Mathlib.Omega.{arith}
use lib.ListN.{drop}
use borrow.Author.Tests.{eqb-false}
use Rattle.board.specs.declared.Phase.TheVariants.{Running}
use Rattle.board.specs.declared.Call.TheVariants.{Request}
use Rattle.board.specs.Board.{Board, Shape, epoch_of, last_epoch}
use Rattle.board.specs.State.{is_running, requesting, dirty_count}
use Rattle.board.specs.Location.{line_for}
use Rattle.board.specs.Checkpoint.{write_line, planned, acts}
use Rattle.board.specs.Causes.{causes, first_standing, cause, epoch_spent}
use Rattle.board.specs.Effects.{stated, effect}
use Rattle.board.specs.Machine.{Machine, marked_count, started_request, feed}
use Rattle.board.specs.Sequence.{Run}
use Rattle.predicate.proofs.Bools.{clash, passed_over, not-off}
use Rattle.board.proofs.Invariant.{Early, Stage, early, gap, late, CheckpointPart, Inv}
use Rattle.board.proofs.Checkpoint.Acts.{acts-length}
use Rattle.board.proofs.Laws.Taken.{stands_at, passed, after_taken}
use Rattle.board.proofs.Laws.Reading.{running-passes}
use Rattle.board.proofs.Checkpoint.Run.{is-running, running-run, running-count, inv-running}
use Rattle.board.specs.Next.{Taken}

-- Where no request stands the board is before the epoch's store.
pub unrequested-early : {σ : Shape} {b : Board} {m : Machine} → b.state.requested ≡ false → Stage σ b m → Early σ b m
unrequested-early off (early e) = e
unrequested-early off (gap g) = absurd (clash g.request off)
unrequested-early off (late e) = absurd (clash e.request off)

-- A request leaves a running board that has taken no step of its checkpoint.
requested-part : {σ : Shape} (b : Board) (m : Machine) → marked_count m ≡ dirty_count b.state → b.state.requested ≡ false → epoch_spent b ≡ false →
    CheckpointPart σ b m → CheckpointPart σ (stated (requesting b.state) b) (started_request m)
unfolding acts
requested-part b m count off room v =
    let e = unrequested-early off v.stage in
    let same : acts (stated (requesting b.state) b) ≡ acts b = ap (λ (k : ℕ). drop k (planned b)) (sym (passed_over b.state.requested b.state.place 0 off)) in
    record {
      request = refl;
      dirty = v.dirty;
      steps = λ q. omega (arith, acts-length (stated (requesting b.state) b));
      stage =
          early (record {
            epochs = e.epochs;
            marks = e.marks;
            clean = e.clean;
            written = λ u h o. e.written u h (λ k. o (subst (Memᴰ (write_line (line_for u))) (sym same) k));
            left = omega (arith, acts-length (stated (requesting b.state) b));
            waiting = λ h. absurd (omega arith);
            room = λ q. eqb-false (epoch_of b.cache) last_epoch room;
          });
    }

-- A taken request keeps the invariant.
pub keeps-request : (r : Run) → Inv r → r.crashed ≡ false → Taken Request r.board → Inv (after_taken Request r)
unfolding effect feed stands_at causes
keeps-request r inv d t =
    let b = r.board in
    let run : b.state.phase ≡ Running = is-running b.state.phase (not-off (is_running b.state.phase) (passed Request b t 2)) in
    let off : b.state.requested ≡ false = passed Request b t 10 in
    let room : epoch_spent b ≡ false = passed Request b t 11 in
    let s = running-run r inv d run in
    let v = s.running in
    inv-running (after_taken Request r) s.on run inv.sizes (inv.kept s.on)
    (record { own = v.own; rows = v.rows; workers = v.workers; checkpoint = requested-part b r.machine (sym (running-count s)) off room v.checkpoint })

-- ---- when it is taken

-- With no request standing cache and memory have one epoch, and it alone decides.
pub request-answer : (r : Run) → Inv r → r.crashed ≡ false → is_running r.board.state.phase ≡ true → r.board.state.requested ≡ false →
    cause Request r.board ≡ cond (eqb (epoch_of r.board.memory) last_epoch) 11 0
unfolding cause causes first_standing
request-answer r inv d e off =
    let b = r.board in
    let on = is-running b.state.phase e in
    let y = running-passes r inv d on in
    passed_over _ 2 _ y.phase ∙ passed_over _ 3 _ y.state ∙ passed_over _ 4 _ y.rows ∙ passed_over b.state.requested 10 _ off
    ∙ ap (λ (n : ℕ). cond (eqb n last_epoch) 11 0) (unrequested-early off (running-run r inv d on).running.checkpoint.stage).epochs
