-- A call that changes neither rows nor what the machine knows, and of the state record at most the workers' conditions and the locks' holders: one law for all of them.
use Prim.Native.Nat.{ℕ, ◌≤◌, ◌<◌}
use mathlib.Core.Path.{◌≡◌, refl, ◌∙◌, subst, sym}
use mathlib.Core.List.{List}
use mathlib.Core.Bool.{Bool, false}
use native.Mathlib.Omega.{arith}
use lib.ListN.{length, get_or}
use Rattle.board.specs.declared.State.{State}
use Rattle.board.specs.declared.Worker.{Worker}
use Rattle.board.specs.declared.Phase.TheVariants.{Running}
use Rattle.board.specs.declared.Call.{Call}
use Rattle.board.specs.Board.{Board, Shape}
use Rattle.board.specs.State.{free_worker, condition_of, is_running, locked}
use Rattle.board.specs.Causes.{not_running}
use Rattle.board.specs.Effects.{stated}
use Rattle.board.specs.Next.{Taken}
use Rattle.board.specs.Machine.{Machine, Unfinished}
use Rattle.board.specs.Sequence.{Run}
use Rattle.predicate.proofs.Bools.{not-off}
use Rattle.board.proofs.Laws.Taken.{after_taken, Quiet, phase-passed}
use Rattle.board.proofs.Invariant.{HeldUnder, AllQuiescent, WorkerInv, Touches, Stage, early, gap, late, RunningInv, Inv}
use Rattle.board.specs.Checkpoint.{progress, acts}
use Rattle.board.proofs.Checkpoint.Acts.{acts-length}
use Rattle.board.proofs.Checkpoint.Run.{Preserved, quietly, is-running, running-run, inv-running}

-- The record with other holders and other workers.
abbrev pub manned : State → ℕ → List Worker → State
manned s holders workers =
    record { phase = s.phase; lines = s.lines; workers = s.workers; place = s.place; undo = s.undo; requested = s.requested; holders = holders; dirty = s.dirty; worker = workers }

-- The workers `ws` have the unfinished updates of the record's own, and no fewer of them wait once a checkpoint has taken a step; the holders `holders` are under W.
pub record Alike (s : State) (holders : ℕ) (ws : List Worker) : Type 0 where
  pub eight : length ws ≡ length s.worker
  pub work : (w : ℕ) → w < s.workers → (σ : Shape) (cache : List ℕ) (u : Unfinished) → WorkerInv σ cache (condition_of s w) u →
      WorkerInv σ cache (get_or ws w free_worker).condition u
  pub touches : (w d : ℕ) → w < s.workers → Touches (get_or ws w free_worker).condition d → Touches (condition_of s w) d
  pub waits : 0 < progress s → AllQuiescent s → AllQuiescent (manned s holders ws)
  pub held : HeldUnder s → HeldUnder (manned s holders ws)

-- Where at most two acts are left, a step of the checkpoint was taken.
begun : (b : Board) → length (acts b) ≤ 2 → 0 < progress b.state
begun b h = omega (arith, acts-length b)

module _ {σ : Shape} (b : Board) (m : Machine) (holders : ℕ) (ws : List Worker) (alike : Alike b.state holders ws) where
  -- The stage of a checkpoint stays.
  stage-manned : Stage σ b m → Stage σ (stated (manned b.state holders ws) b) m
  unfolding acts
  stage-manned (early e) =
      early (record { epochs = e.epochs; marks = e.marks; clean = e.clean; written = e.written; left = e.left; waiting = λ h. alike.waits h (e.waiting h); room = e.room })
  stage-manned (gap g) =
      gap (record { request = g.request; left = g.left; epochs = g.epochs; same = g.same; waiting = alike.waits (begun b (omega (arith, g.left))) g.waiting })
  stage-manned (late e) =
      late (record {
        request = e.request;
        low = e.low;
        high = e.high;
        epochs = e.epochs;
        same = e.same;
        waiting = alike.waits (begun b e.high) e.waiting;
        complete = e.complete;
        unlogged = e.unlogged;
      })

  -- A running board stays one.
  running-manned : RunningInv σ b m → RunningInv σ (stated (manned b.state holders ws) b) m
  unfolding acts
  running-manned v =
      record {
        own = record { shape = v.own.shape; limits = v.own.limits; holders = alike.held v.own.holders; eight = alike.eight ∙ v.own.eight };
        rows = v.rows;
        workers =
            record {
              each = λ w h. alike.work w h σ b.cache (m.unfinished w) (v.workers.each w h);
              apart = λ w w' p h h' t t'. v.workers.apart w w' p h h' (alike.touches w p h t) (alike.touches w' p h' t');
            };
        checkpoint = record { request = v.checkpoint.request; dirty = v.checkpoint.dirty; steps = v.checkpoint.steps; stage = stage-manned v.checkpoint.stage };
      }

-- A running board with other holders, and other workers that have the same unfinished updates.
pub carried-workers : (r : Run) (holders : ℕ) (ws : List Worker) (crashed : Bool) → Inv r → r.crashed ≡ false → r.board.state.phase ≡ Running →
    Alike r.board.state holders ws →
    Preserved false r (record { board = stated (manned r.board.state holders ws) r.board; machine = r.machine; crashed = crashed; erased = r.erased })
carried-workers r holders ws crashed inv d p alike =
    let s = running-run r inv d p in
    quietly
    (inv-running _ s.on p inv.sizes (inv.kept s.on)
    (running-manned r.board r.machine holders ws alike s.running))
    refl refl (λ c. refl)

-- What leaves a running board and the machine as they were, but for the locks' holders.
pub carried-holders : (r : Run) (holders : ℕ) (crashed : Bool) → Inv r → r.crashed ≡ false → not_running r.board ≡ false →
    (HeldUnder r.board.state → HeldUnder (locked r.board.state holders)) →
    Preserved false r (record { board = stated (locked r.board.state holders) r.board; machine = r.machine; crashed = crashed; erased = r.erased })
carried-holders r holders crashed inv d on held =
    carried-workers r holders r.board.state.worker crashed inv d (is-running r.board.state.phase (not-off (is_running r.board.state.phase) on))
    (record { eight = refl; work = λ w h σ cache u i. i; touches = λ w n h t. t; waits = λ h a. a; held = held })

-- What leaves a running board and the machine as they were.
carried_same : (r : Run) (crashed : Bool) → Inv r → r.crashed ≡ false → not_running r.board ≡ false →
    Preserved false r (record { board = r.board; machine = r.machine; crashed = crashed; erased = r.erased })
carried_same r crashed inv d on =
    carried-holders r r.board.state.holders crashed inv d on (λ h. h)

-- A taken call that is quiet.
pub carried-quiet : {k : Call} (r : Run) → Quiet k → Inv r → r.crashed ≡ false → Taken k r.board → Preserved false r (after_taken k r)
carried-quiet {k} r q inv d t =
    subst (Preserved false r) (sym (q.after r)) (carried_same r _ inv d (sym (q.barred r.board) ∙ phase-passed k r.board t))
