-- A finished recovery: whatever other calls stand among its steps, the board then reads the values it was started for.
use Prim.Native.Nat.{ℕ, zero, suc, ◌+◌, ◌<◌}
use mathlib.Core.Path.{◌≡◌, refl, sym, ap, subst, ◌∙◌}
use mathlib.Core.Logic.{◌⊎◌, inl, inr, ⊎_elim}
use mathlib.Core.Bool.{true, false, cond, not, ◌&&◌, ◌||◌, true≢false}
use native.Mathlib.Omega.{arith}
use lib.Dec.{leb, eqb}
use borrow.Author.Tests.{eqb-true, eqb-false}
use Rattle.board.specs.declared.Phase.{Phase}
use Rattle.board.specs.declared.Phase.TheVariants.{Recovering, Running}
use Rattle.board.specs.declared.Call.{Call}
use Rattle.board.specs.declared.Call.TheVariants.{RecoveryStart, Step, WriteBack, Read}
use Rattle.board.specs.Board.{Board, Shape, shape_of, shape_in, cells, workers_of}
use Rattle.board.specs.Location.{Location, cell, undo, stops}
use Rattle.board.specs.State.{is_running}
use Rattle.board.specs.Effects.{effect}
use Rattle.board.specs.Next.{Taken, value_read, Kind, starts_format, starts_recovery, stepping, writing, counting, other, reading, kind, is_start, is_step}
use Rattle.board.specs.Machine.{Machine, feed, stepped, finishes_format, beginning, recovery_beginning, counted, completed, checkpoint_step, write_back_seen, marked_count}
use Rattle.board.specs.Sequence.{Run, opening, Takes, finished, steps, between, stays, recovery_steps}
use Rattle.board.specs.Statements.{Recovered, SameBoard, Completes}
use Rattle.predicate.proofs.Bools.{on, split, clash, and-off, and-off-right, passed_over}
use Rattle.board.proofs.Laws.Takes.{takes_none}
use Rattle.board.proofs.Invariant.{Inv, RecoveryInv, RecoveryMachine}
use Rattle.board.proofs.Laws.Taken.{phase_bars, phase-passed, of-kind, performed-taken, performed-refused, after_taken}
use Rattle.board.proofs.Laws.Quiet.{quiet-board}
use Rattle.board.proofs.Checkpoint.Run.{Preserved}
use Rattle.board.proofs.Laws.Reading.{in-phase, read_taken_lem, read-current}
use Rattle.board.proofs.Recovery.Count.{remaining, remaining-start, remaining-step, remaining-positive}
use Rattle.board.proofs.Keeps.RecoveryStart.{keeps-recovery-start, recovery-begins}
use Rattle.board.proofs.Keeps.RecoveryStep.{carried-recovery-step}
use Rattle.board.proofs.Keeps.WriteBack.{carried-write-back}

-- A run in the middle of a recovery that has `n` steps left and was started for the values `xs` on a header of shape `σ` and `w` workers.
pub record InRecovery (n : ℕ) (σ : Shape) (w : ℕ) (xs : Location → ℕ) (r : Run) : Type 0 where
  pub inv : Inv r
  pub uncut : r.crashed ≡ false
  pub phase : r.board.state.phase ≡ Recovering
  pub left : remaining r.board ≡ n
  pub shape : r.machine.shape ≡ σ
  pub workers : workers_of r.board.memory ≡ w
  pub values : (u : Location) → r.machine.current u ≡ xs u

-- What is shown of the board after the last step.
pub record RecoveryDone (σ : Shape) (w : ℕ) (xs : Location → ℕ) (b : Board) : Type 0 where
  pub shape : shape_of b.state ≡ σ
  pub workers : b.state.workers ≡ w
  pub reads : (c : ℕ) → c < cells σ → Taken (Read c) b × (value_read c b ≡ xs (cell c))

-- A running run with those values is done.
done : (σ : Shape) (w : ℕ) (xs : Location → ℕ) (r : Run) → Inv r → r.crashed ≡ false → r.board.state.phase ≡ Running → r.machine.shape ≡ σ →
    workers_of r.board.memory ≡ w → ((u : Location) → r.machine.current u ≡ xs u) → RecoveryDone σ w xs r.board
done σ w xs r i d p e n v =
    let running = (in-phase r i d Running p).0 in
    record {
      shape = running.own.shape ∙ e;
      workers = running.rows.sizes.workers ∙ n;
      reads = λ c h.
          let k : c < cells r.machine.shape = subst (λ (τ : Shape). c < cells τ) (sym e) h in
          (read_taken_lem r i d p c k, read-current r i d p c k ∙ v (cell c));
    }

-- Whatever is no step of a format leaves the board's size.
same-board : {r r' : Run} → Completes false r r' → SameBoard r r'
same-board c = ⊎_elim (λ u. u.board) (λ u. u.board) c

-- A recovery's step in the machine only counts.
pub step_counts : (m : Machine) → m.requested ≡ false → m.formatting ≡ false → feed Step m ≡ counted m
unfolding feed stepped
step_counts m q f =
    passed_over m.requested (checkpoint_step m) (cond (finishes_format m) (beginning m.shape) (counted m)) q
    ∙ passed_over (finishes_format m) (beginning m.shape) (counted m) (and-off m.formatting (eqb (m.steps + 1) (m.shape.lines + 2)) f)

-- A write-back leaves the machine's current values.
back-current : (i : ℕ) (m : Machine) (c : Location) → (feed (WriteBack i) m).current c ≡ m.current c
unfolding feed write_back_seen
back-current i m c =
    on (λ (n : Machine). n.current c ≡ m.current c) (eqb i 0 && m.requested && leb (marked_count m + 1) m.steps) (completed m) m (λ t. refl) (λ t. refl)

-- A write-back leaves what a recovery goes by.
remaining-back : (i : ℕ) (b : Board) → remaining (effect (WriteBack i) b) ≡ remaining b
unfolding effect
remaining-back i b = refl

phase-back : (i : ℕ) (b : Board) → (effect (WriteBack i) b).state.phase ≡ b.state.phase
unfolding effect
phase-back i b = refl

-- The place of a recovery is a stop's.
pub place-within : (r : Run) → Inv r → r.crashed ≡ false → r.board.state.phase ≡ Recovering → r.board.state.place < stops (shape_of r.board.state)
place-within r i d p =
    let v : RecoveryInv r.machine.shape r.machine.checkpointed r.board = (in-phase r i d Recovering p).0 in
    subst (λ (τ : Shape). r.board.state.place < stops τ) (sym v.underway.own.shape) v.underway.within

-- A recovery has a step left, so none is not all of it.
steps-left : {σ : Shape} {w : ℕ} {xs : Location → ℕ} (r : Run) → InRecovery zero σ w xs r → ⊥
steps-left r u =
    omega (arith, remaining-positive r.board (place-within r u.inv u.uncut u.phase), u.left)

-- In a recovery the phase doesn't allow a call that needs running.
not-running : (b : Board) → b.state.phase ≡ Recovering → not (is_running b.state.phase) ≡ false → ⊥
not-running b p e = clash (ap (λ (q : Phase). not (is_running q)) p) e

module _ (σ : Shape) (w : ℕ) (xs : Location → ℕ) where
  -- After a taken step of the recovery one step fewer is left, or it was the last and the board is done.
  stepped-on : (n : ℕ) (r : Run) → InRecovery (suc n) σ w xs r →
      InRecovery n σ w xs (after_taken Step r) ⊎ ((n ≡ 0) × RecoveryDone σ w xs (effect Step r.board))
  stepped-on n r u = go (remaining-step r.board u.phase (place-within r u.inv u.uncut u.phase))
    where
      known : RecoveryInv r.machine.shape r.machine.checkpointed r.board × RecoveryMachine r.machine × (r.erased ≡ false)
      known = in-phase r u.inv u.uncut Recovering u.phase

      carried : Preserved false r (after_taken Step r)
      carried = carried-recovery-step r u.inv u.uncut u.phase

      size : SameBoard r (after_taken Step r)
      size = same-board carried.completion

      uncut : (after_taken Step r).crashed ≡ false
      uncut = and-off r.crashed true u.uncut

      workers : workers_of (effect Step r.board).memory ≡ w
      workers = size.header 2 (omega arith) (omega arith) ∙ u.workers

      values : (c : Location) → (after_taken Step r).machine.current c ≡ xs c
      values c = ap (λ (m : Machine). m.current c) (step_counts r.machine known.1.request known.1.formatting) ∙ u.values c

      go : (((effect Step r.board).state.phase ≡ Recovering) × (remaining (effect Step r.board) + 1 ≡ remaining r.board)) ⊎ (((effect Step r.board).state.phase ≡ Running) × (remaining r.board ≡ 1)) →
          InRecovery n σ w xs (after_taken Step r) ⊎ ((n ≡ 0) × RecoveryDone σ w xs (effect Step r.board))
      go (inl x) =
          inl (record { inv = carried.keeps; uncut = uncut; phase = x.0; left = omega (arith, x.1, u.left); shape = size.shape ∙ u.shape; workers = workers; values = values })
      go (inr x) =
          inr (omega (arith, x.1, u.left), done σ w xs (after_taken Step r) carried.keeps uncut x.0 (size.shape ∙ u.shape) workers values)

  -- A write-back leaves the recovery underway.
  written_back_lem : (n i : ℕ) (r : Run) → InRecovery n σ w xs r → Taken (WriteBack i) r.board → InRecovery n σ w xs (after_taken (WriteBack i) r)
  written_back_lem n i r u t =
      let carried = carried-write-back r i u.inv u.uncut t in
      let size = same-board carried.completion in
      record {
        inv = carried.keeps;
        uncut = and-off r.crashed true u.uncut;
        phase = phase-back i r.board ∙ u.phase;
        left = remaining-back i r.board ∙ u.left;
        shape = size.shape ∙ u.shape;
        workers = size.header 2 (omega arith) (omega arith) ∙ u.workers;
        values = λ c. back-current i r.machine c ∙ u.values c;
      }

  -- A call other than a start or step that is taken in a recovery is a write-back.
  goes_on : (n : ℕ) (k : Call) (r : Run) → InRecovery n σ w xs r → Taken k r.board → is_start (kind k) || is_step (kind k) ≡ false →
      InRecovery n σ w xs (after_taken k r)
  goes_on n k r u t e = by_kind (kind k) refl e (phase-passed k r.board t)
    where
      by_kind : (d : Kind) → kind k ≡ d → is_start d || is_step d ≡ false → phase_bars d r.board ≡ false → InRecovery n σ w xs (after_taken k r)
      by_kind starts_format q o p = absurd (true≢false o)
      by_kind starts_recovery q o p = absurd (true≢false o)
      by_kind stepping q o p = absurd (true≢false o)
      by_kind writing q o p =
          let (i, same) = of-kind k writing q in
          subst (λ (x : Call). InRecovery n σ w xs (after_taken x r)) (sym same) (written_back_lem n i r u (subst (λ (x : Call). Taken x r.board) same t))
      by_kind counting q o p = absurd (not-running r.board u.phase p)
      by_kind other q o p = absurd (not-running r.board u.phase p)
      by_kind (reading c) q o p = absurd (not-running r.board u.phase p)

  -- To the last step, and the board is done.
  to_the_end : {n : ℕ} {b b' : Board} → Takes n b b' → (r : Run) → r.board ≡ b → InRecovery n σ w xs r → RecoveryDone σ w xs b'
  to_the_end finished r e u = absurd (steps-left r u)
  to_the_end (steps {n = n} {b = b} p rest) r e u =
      let now : effect Step r.board ≡ _ = ap (effect Step) e ∙ sym (performed-taken Step b p refl).1 in
      ⊎_elim
      (λ v. to_the_end rest (after_taken Step r) now v)
      (λ v. subst (RecoveryDone σ w xs) (now ∙ takes_none rest v.0) v.1)
      (stepped-on n r u)
  to_the_end (between {n = n} {number = number} k {b = b} p f rest) r e u =
      split (eqb number 0)
      (λ t.
      let z = eqb-true number 0 t in
      let taken = performed-taken k b p z in
      to_the_end rest (after_taken k r) (ap (effect k) e ∙ sym taken.1) (goes_on (suc n) k r u (subst (Taken k) (sym e) taken.0) (f z)))
      (λ t. to_the_end rest r (e ∙ sym (performed-refused k b p (eqb-false number 0 t))) u)
  to_the_end (stays q rest) r e u = to_the_end rest r (e ∙ sym (quiet-board q)) u

pub phase-start : (b : Board) → (effect RecoveryStart b).state.phase ≡ Recovering
unfolding effect
phase-start b = refl

-- A recovery's start leaves it underway, with all the steps that memory calls for.
started : (r : Run) → Inv r → Taken RecoveryStart r.board →
    InRecovery (recovery_steps r.board.memory) r.machine.shape (workers_of r.board.memory) r.machine.checkpointed (after_taken RecoveryStart r)
unfolding feed effect
started r i t =
    record {
      inv = keeps-recovery-start r i t;
      uncut = and-off-right r.crashed false refl;
      phase = phase-start r.board;
      left = remaining-start r.board;
      shape = refl;
      workers = refl;
      values = λ c. refl;
    }

-- After a finished recovery every cell reads the value checkpointed at its start, and L and W are the header's.
pub recovers : (r : Run) → Inv r → (b : Board) → Recovered r b → RecoveryDone r.machine.shape (workers_of r.board.memory) r.machine.checkpointed b
recovers r i b e =
    let (t, same) = performed-taken RecoveryStart r.board e.begun refl in
    to_the_end r.machine.shape (workers_of r.board.memory) r.machine.checkpointed e.ended (after_taken RecoveryStart r) (sym same) (started r i t)

-- It reads the undo of the memory that its start took, whatever the run was before.
pub recovers-taken : (r : Run) (b : Board) → Recovered r b →
    RecoveryDone (shape_in r.board.memory) (workers_of r.board.memory) (undo r.board.memory) b
unfolding effect
recovers-taken r b e =
    let d = r.board in
    let σ = shape_in d.memory in
    let values = undo d.memory in
    let (t, same) = performed-taken RecoveryStart d e.begun refl in
    to_the_end σ (workers_of d.memory) values e.ended (opening (effect RecoveryStart d) (recovery_beginning σ values)) (sym same)
    (record { inv = recovery-begins d t; uncut = refl; phase = refl; left = remaining-start d; shape = refl; workers = refl; values = λ c. refl })
