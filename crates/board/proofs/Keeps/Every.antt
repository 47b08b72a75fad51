-- Whatever happens keeps the invariant and does to the last checkpoint what is claimed of it.
use mathlib.Core.Path.{◌≡◌, refl, sym, ap, subst, ◌∙◌}
use mathlib.Core.Bool.{Bool, true, false, cond, ◌&&◌, true≢false, false≢true}
use lib.Dec.{eqb}
use borrow.Author.Tests.{eqb-true, eqb-false}
use Rattle.board.specs.declared.Phase.{Phase}
use Rattle.board.specs.declared.Phase.TheVariants.{Off, Formatting, Recovering, Running}
use Rattle.board.specs.declared.Call.{Call}
use Rattle.board.specs.declared.Call.TheVariants.{Step}
use Rattle.board.specs.Board.{Board}
use Rattle.board.specs.State.{is_off, is_formatting}
use Rattle.board.specs.Effects.{effect}
use Rattle.board.specs.Next.{Taken, kind, is_start, is_step}
use Rattle.board.specs.Causes.{causes}
use Rattle.board.specs.Machine.{feed}
use Rattle.board.specs.Sequence.{Run, taken_call, unfed, Happens, performs, stays, cuts, History, begun, further}
use Rattle.board.specs.Statements.{format_step_in}
use Rattle.predicate.proofs.Bools.{split, clash, decide}
use Rattle.board.proofs.Invariant.{Inv}
use Rattle.board.proofs.Laws.Taken.{stands_at, passed, performed-taken, performed-refused, after_taken, ByEffect, quiet, the_format, the_recovery, the_step, the_update, the_restart, the_advance, the_request, the_write_back, the_going, the_coming, the_taking, the_giving, by-effect}
use Rattle.board.proofs.Laws.Quiet.{quiet-board}
use Rattle.board.proofs.Format.Begins.{begins-inv}
use Rattle.board.proofs.Checkpoint.Run.{Preserved, quietly}
use Rattle.board.proofs.Keeps.FormatStart.{carried-format-start}
use Rattle.board.proofs.Keeps.FormatStep.{carried-format-step}
use Rattle.board.proofs.Keeps.RecoveryStart.{keeps-recovery-start}
use Rattle.board.proofs.Keeps.RecoveryStep.{carried-recovery-step}
use Rattle.board.proofs.Keeps.CheckpointStep.{carried-checkpoint-step}
use Rattle.board.proofs.Keeps.Update.{keeps-update, keeps-restart}
use Rattle.board.proofs.Keeps.Advance.{carried-advance}
use Rattle.board.proofs.Keeps.Request.{keeps-request}
use Rattle.board.proofs.Keeps.WriteBack.{carried-write-back}
use Rattle.board.proofs.Keeps.Quiet.{carried-quiet}
use Rattle.board.proofs.Keeps.Away.{carried-go-away, carried-come-back}
use Rattle.board.proofs.Keeps.Locks.{carried-take-lock, carried-give-back-lock}

-- A call other than a start that is allowed after no cut alone was made after none.
uncut : (r : Run) → (r.crashed ≡ true → false ≡ true) → r.crashed ≡ false
uncut r a = split r.crashed (λ d. absurd (false≢true (a d))) (λ d. d)

-- A taken step of a board that is off: there is none.
step-not-off : (b : Board) → Taken Step b → b.state.phase ≡ Off → ⊥
unfolding stands_at causes
step-not-off b t e =
    let off : is_off b.state.phase ≡ false = passed Step b t 2 in
    clash (ap is_off e) off

-- A taken step, by the phase.
carried_step : (r : Run) → Inv r → r.crashed ≡ false → Taken Step r.board → Preserved (is_formatting r.board.state.phase) r (after_taken Step r)
carried_step r i d t = go r.board.state.phase refl
  where
    go : (p : Phase) → r.board.state.phase ≡ p → Preserved (is_formatting p) r (after_taken Step r)
    go Off e = absurd (step-not-off r.board t e)
    go Formatting e = carried-format-step r i d e
    go Recovering e = carried-recovery-step r i d e
    go Running e = carried-checkpoint-step r i d e t

-- A taken call, where after a cut it is a start.
carried-call : {k : Call} → ByEffect k → (r : Run) → Inv r → (r.crashed ≡ true → is_start (kind k) ≡ true) → Taken k r.board →
    Preserved (is_step (kind k) && is_formatting r.board.state.phase) r (after_taken k r)
unfolding effect feed
carried-call {k} (quiet q) r i a t =
    subst (λ (step : Bool). Preserved (step && is_formatting r.board.state.phase) r (after_taken k r)) (sym q.step) (carried-quiet r q i (uncut r (λ c. sym q.start ∙ a c)) t)
carried-call (the_format l w) r i a t = carried-format-start r l w i t
carried-call the_recovery r i a t = quietly (keeps-recovery-start r i t) refl refl (λ c. refl)
carried-call the_step r i a t = carried_step r i (uncut r a) t
carried-call (the_update w c v) r i a t = quietly (keeps-update r w c v i (uncut r a) t) refl refl (λ c. refl)
carried-call (the_restart w v) r i a t = quietly (keeps-restart r w v i (uncut r a) t) refl refl (λ c. refl)
carried-call (the_advance w) r i a t = carried-advance r w i (uncut r a) t
carried-call the_request r i a t = quietly (keeps-request r i (uncut r a) t) refl refl (λ c. refl)
carried-call (the_write_back l) r i a t = carried-write-back r l i (uncut r a) t
carried-call (the_going w) r i a t = carried-go-away r w i (uncut r a) t
carried-call (the_coming w) r i a t = carried-come-back r w i (uncut r a) t
carried-call (the_taking w k) r i a t = carried-take-lock r w k i (uncut r a) t
carried-call (the_giving w k) r i a t = carried-give-back-lock r w k i (uncut r a) t

-- Whatever happens.
pub carried : {r r' : Run} → Inv r → (e : Happens r r') → Preserved (format_step_in e) r r'
unfolding format_step_in
carried i (performs {r = r} k number value b p a) =
    decide (λ (t : Bool). Preserved (t && is_step (kind k) && is_formatting r.board.state.phase) r (cond t (taken_call k b r) (unfed b r))) (eqb number 0)
    (λ t.
    let z = eqb-true number 0 t in
    let done = performed-taken k r.board p z in
    subst (λ (d : Board). Preserved (is_step (kind k) && is_formatting r.board.state.phase) r (taken_call k d r)) (sym done.1) (carried-call (by-effect k) r i (λ c. a c z) done.0))
    (λ t. subst (λ (d : Board). Preserved false r (unfed d r)) (sym (performed-refused k r.board p (eqb-false number 0 t))) (quietly i refl refl (λ c. refl)))
carried i (stays {r = r} q) = subst (λ (d : Board). Preserved false r (unfed d r)) (sym (quiet-board q)) (quietly i refl refl (λ c. refl))
carried i (cuts {r = r} s cache p) =
    quietly
    (record {
      sizes = record {
        limits = i.sizes.limits;
        memory = i.sizes.memory;
        cache = record { size = p ∙ i.sizes.cache.size };
      };
      kept = i.kept;
      lost = i.lost;
      phase = λ d. absurd (true≢false d);
    })
    refl refl (λ c. refl)

-- Every run that a history leads to has the invariant.
pub history-inv : (r : Run) → History r → Inv r
history-inv r (begun {b = b} {m = m} h) = begins-inv b m h
history-inv r (further {r = q} h e) = (carried (history-inv q h) e).keeps
