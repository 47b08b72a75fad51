-- What a request leaves, and the end of a format or recovery.
use Prim.Native.Nat.{ℕ}
use mathlib.Core.Path.{◌≡◌, refl, sym, ap, subst, ◌∙◌}
use mathlib.Core.List.{List}
use native.Mathlib.Omega.{arith}
use lib.Dec.{leb}
use lib.ListN.{length}
use borrow.Author.Tests.{lt-leb}
use Rattle.bitset.specs.Words.{empty}
use Rattle.board.specs.declared.State.{State}
use Rattle.board.specs.declared.Phase.{Phase}
use Rattle.board.specs.declared.Phase.TheVariants.{Recovering}
use Rattle.board.specs.declared.Call.TheVariants.{Request, Step}
use Rattle.board.specs.Board.{Board}
use Rattle.board.specs.State.{opened}
use Rattle.board.specs.Effects.{past_stop, format_step, step, effect}
use Rattle.board.specs.Steps.{Asked, Requests, Opened, FormatOpens, RecoveryOpens}
use Rattle.predicate.proofs.Bools.{passed_over}
use Rattle.board.proofs.Laws.Taken.{taken_next}
use Rattle.board.proofs.Laws.Workers.{free-condition}
use Rattle.board.proofs.Format.Board.{erasing, finishing}
use Rattle.board.proofs.Recovery.Board.{recovery-cases, past_cases}

-- A request sets the place and nothing else.
pub requests : Requests
unfolding effect
requests b t =
    subst (Asked b) (sym (taken_next Request b t))
    (record { request = refl; place = refl; undo = refl; phase = refl; lines = refl; workers = refl; holders = refl; dirty = refl; worker = refl; memory = refl; cache = refl })

-- A board with an opened record.
pub opens : (dirty : List ℕ) (b b' : Board) → b'.state ≡ opened b.state dirty → Opened dirty b b'
opens dirty b b' e =
    record {
      phase = ap (λ (s : State). s.phase) e;
      lines = ap (λ (s : State). s.lines) e;
      workers = ap (λ (s : State). s.workers) e;
      holders = ap (λ (s : State). s.holders) e;
      line_bits = ap (λ (s : State). s.dirty) e;
      place = ap (λ (s : State). s.place) e;
      undo = ap (λ (s : State). s.undo) e;
      request = ap (λ (s : State). s.requested) e;
      eight = ap (λ (s : State). length s.worker) e;
      free = λ i. free-condition b'.state i (ap (λ (s : State). s.worker) e);
    }

-- The last step of a format.
pub format-opens : FormatOpens
unfolding effect step format_step
format-opens b p t e =
    opens empty b _ (ap (λ (d : Board). d.state)
    (taken_next Step b t ∙ ap (λ (q : Phase). step q b.state b) p
    ∙ passed_over (leb b.state.place b.state.lines) (erasing b) (finishing b) (lt-leb b.state.place b.state.lines (omega arith))))

-- Past its last cell a recovery opens the board.
past-opens : (s : State) → s.phase ≡ Recovering → ((past_stop s).phase ≡ Recovering → ⊥) → past_stop s ≡ opened s s.dirty
past-opens s p = past_cases (λ (x : State). (x.phase ≡ Recovering → ⊥) → x ≡ opened s s.dirty) s (λ h o. absurd (o p)) (λ h o. refl)

-- The last step of a recovery.
pub recovery-opens : RecoveryOpens
recovery-opens b p t o =
    let same = taken_next Step b t in
    subst (Opened b.state.dirty b) (sym same)
    (recovery-cases (λ (d : Board). (d.state.phase ≡ Recovering → ⊥) → Opened b.state.dirty b d) b p
    (λ q y n. absurd (n p)) (λ q y n. opens _ b _ (past-opens b.state p n)) (λ q n. absurd (n p)) (λ q n. opens _ b _ (past-opens b.state p n))
    (λ e. o (ap (λ (d : Board). d.state.phase) same ∙ e)))
