-- A format's step keeps the invariant: it erases a line, or it stores the header and the machine begins anew.
use Prim.Native.Nat.{ℕ, ◌+◌, ◌/◌, ◌≤◌, ◌<◌}
use mathlib.Core.Path.{◌≡◌, refl, sym, ap, subst, subst₃, ◌∙◌}
use mathlib.Core.Logic.{inl, inr}
use mathlib.Core.Bool.{Bool, true, false, cond, not, ◌&&◌, true≢false, false≢true}
use native.Mathlib.Omega.{arith}
use native.Mathlib.Decide.{dec_le}
use lib.Dec.{eqb}
use lib.ListN.{get_or}
use borrow.Author.Tests.{eq-eqb, ne_eqb}
use Rattle.board.specs.declared.Phase.{Phase}
use Rattle.board.specs.declared.Phase.TheVariants.{Formatting}
use Rattle.board.specs.declared.Call.TheVariants.{Step}
use Rattle.board.specs.Board.{Board, Shape, shape_of}
use Rattle.board.specs.Effects.{effect}
use Rattle.board.specs.Machine.{Machine, beginning, counted, format_steps, finishes_format, checkpoint_step, stepped, feed}
use Rattle.board.specs.Sequence.{Run, erased_by}
use Rattle.board.specs.Statements.{ErasedSpare}
use Rattle.line.specs.Line.{line_start}
use Rattle.board.proofs.Laws.View.{Sized}
use Rattle.board.proofs.Format.Rows.{word_kept}
use Rattle.predicate.proofs.Bools.{chosen, passed_over, and_both, and-off-right}
use Rattle.board.proofs.Invariant.{FormatMachine, InPhase, Inv}
use Rattle.board.proofs.Laws.Taken.{after_taken}
use Rattle.board.proofs.Checkpoint.Run.{Preserved}
use Rattle.board.proofs.Format.Board.{InFormat, Erased, Fresh, erasing, erasing-step, format-erases, finishing, finishing-step, format-finishes}

-- ---- the machine

-- With no request a step counts, unless it finishes a format: then the machine begins anew.
unrequested : (m : Machine) → m.requested ≡ false → feed Step m ≡ cond (finishes_format m) (beginning m.shape) (counted m)
unfolding feed stepped
unrequested m q = passed_over m.requested (checkpoint_step m) (cond (finishes_format m) (beginning m.shape) (counted m)) q

-- A format's step leaves the memory erased unless it is the last.
erases : (m : Machine) (e : Bool) → m.requested ≡ false → m.formatting ≡ true → erased_by Step m e ≡ not (finishes_format m)
erases m e q f =
    chosen (m.formatting && not m.requested) (not (finishes_format m)) e
    (and_both m.formatting (not m.requested) f (ap not q))

-- ---- the run

-- A run whose board, machine and erasure are given by equations.
carried_of : (r : Run) (d : Bool) {b b' : Board} {m m' : Machine} {e e' : Bool} → b ≡ b' → m ≡ m' → e ≡ e' →
    Preserved true r (record { board = b'; machine = m'; crashed = d; erased = e' }) →
    Preserved true r (record { board = b; machine = m; crashed = d; erased = e })
carried_of r d p q s =
    subst₃ (λ (b : Board) (m : Machine) (e : Bool). Preserved true r (record { board = b; machine = m; crashed = d; erased = e })) (sym p) (sym q) (sym s)

-- A finished format beside the machine at its beginning.
pub fresh-inv : (σ : Shape) (b : Board) (d : Bool) → Fresh σ b → Inv (record { board = b; machine = beginning σ; crashed = d; erased = false })
fresh-inv σ b d f =
    record {
      sizes = f.sizes;
      kept = λ e. f.kept;
      lost = λ e. absurd (false≢true e);
      phase = λ e. subst (λ (k : Phase). InPhase k (record { board = b; machine = beginning σ; crashed = d; erased = false })) (sym f.phase) (f.running, refl);
    }

-- A format with one more line erased beside a machine that counts the step.
erased-inv : (b b' : Board) (m : Machine) (d : Bool) → Erased m.shape b b' → m.formatting ≡ true → m.requested ≡ false →
    m.steps ≡ b.state.place → Inv (record { board = b'; machine = counted m; crashed = d; erased = true })
erased-inv b b' m d s f q n =
    record {
      sizes = s.formats.sizes;
      kept = λ e. absurd (true≢false e);
      lost = λ e. s.epoch;
      phase = λ e. subst (λ (k : Phase). InPhase k (record { board = b'; machine = counted m; crashed = d; erased = true })) (sym s.formats.phase)
          (s.formats.format, record { formatting = f; request = q; steps = omega (arith, s.place); erased = λ h. refl });
    }

-- A format's step keeps the invariant; memory says that there is no board here until the last one, which leaves all values 0.
pub carried-format-step : (r : Run) → Inv r → r.crashed ≡ false → r.board.state.phase ≡ Formatting → Preserved true r (after_taken Step r)
carried-format-step r inv d p =
    elim (dec_le r.board.state.place r.machine.shape.lines) [
      | yes h ↦ erased h
      | no h ↦ finished (omega (arith, formats.format.within))
    ]
  where
    at : InPhase Formatting r
    at = subst (λ (k : Phase). InPhase k r) p (inv.phase d)

    formats : InFormat r.machine.shape r.board
    formats = record { sizes = inv.sizes; format = at.0; phase = p }

    beside : FormatMachine r
    beside = at.1

    -- the machine and the erasure, by whether the step finishes the format
    carried : {last : Bool} (b : Board) → finishes_format r.machine ≡ last → effect Step r.board ≡ b → Preserved true r (record { board = b; machine = cond last (beginning r.machine.shape) (counted r.machine); crashed = r.crashed && true; erased = not last }) → Preserved true r (after_taken Step r)
    carried b e s next =
        carried_of r (r.crashed && true) s
        (unrequested r.machine beside.request ∙ ap (λ (k : Bool). cond k (beginning r.machine.shape) (counted r.machine)) e)
        (erases r.machine r.erased beside.request beside.formatting ∙ ap not e)
        next

    erased : r.board.state.place ≤ r.machine.shape.lines → Preserved true r (after_taken Step r)
    erased h =
        let after = format-erases r.machine.shape r.board formats h in
        carried (erasing r.board)
        (and-off-right r.machine.formatting (eqb (r.machine.steps + 1) (format_steps r.machine.shape.lines))
        (ne_eqb (r.machine.steps + 1) (format_steps r.machine.shape.lines) (λ e. omega (arith, beside.steps))))
        (erasing-step r.machine.shape r.board formats h)
        (record {
          keeps = erased-inv r.board (erasing r.board) r.machine (r.crashed && true) after beside.formatting beside.request beside.steps;
          completion = inl (record { shape = refl; epoch = after.epoch; values = λ c b. refl; spare = after.spare });
        })

    -- the last step stores to no cell line
    kept : r.board.state.place ≡ r.machine.shape.lines + 1 → ErasedSpare r (record { board = finishing r.board; machine = beginning r.machine.shape; crashed = r.crashed && true; erased = false })
    kept e i k a b c d =
        let at = line_start i + k in
        stored_last formats.format.own.shape i k a d
        ∙ sym (passed_over (eqb (at / 8) r.board.state.place) 0 (get_or r.board.memory at 0) (ne_eqb (at / 8) r.board.state.place (λ q. omega (arith, e))))
      where
        stored_last : shape_of r.board.state ≡ r.machine.shape → (i k : ℕ) → 1 ≤ i → k < 8 →
            get_or (finishing r.board).memory (line_start i + k) 0 ≡ get_or r.board.memory (line_start i + k) 0
        stored_last q = word_kept r.board.memory r.board.state.workers (subst (λ (σ : Shape). Sized σ r.board.memory) (sym q) inv.sizes.memory)

    finished : r.board.state.place ≡ r.machine.shape.lines + 1 → Preserved true r (after_taken Step r)
    finished e =
        let after = format-finishes r.machine.shape r.board formats e in
        carried (finishing r.board)
        (and_both r.machine.formatting (eqb (r.machine.steps + 1) (format_steps r.machine.shape.lines)) beside.formatting
        (eq-eqb (r.machine.steps + 1) (format_steps r.machine.shape.lines) (omega (arith, beside.steps))))
        (finishing-step r.machine.shape r.board formats e)
        (record {
          keeps = fresh-inv r.machine.shape (finishing r.board) (r.crashed && true) after;
          completion = inr (record { shape = refl; before = at.0.epoch (omega arith); epoch = after.epoch; values = λ c. refl; current = λ c. refl; spare = kept e });
        })
