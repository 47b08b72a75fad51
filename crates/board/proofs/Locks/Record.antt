-- What a step leaves of the state record, and that no call but four changes a lock's holder.
use Prim.Native.Nat.{ℕ, ◌+◌}
use mathlib.Core.Path.{◌≡◌, refl, sym, subst, ap}
use mathlib.Core.List.{List, [], ◌∷◌}
use mathlib.Core.Bool.{false, true≢false}
use lib.Dec.{leb}
use Rattle.board.specs.declared.State.{State}
use Rattle.board.specs.declared.Condition.{Condition}
use Rattle.board.specs.declared.Condition.TheVariants.{Free, Waiting, Updating, Away}
use Rattle.board.specs.declared.Store.{Store}
use Rattle.board.specs.declared.Store.TheVariants.{Backup, Mark, Record}
use Rattle.board.specs.declared.UndoStep.{UndoStep}
use Rattle.board.specs.declared.Phase.{Phase}
use Rattle.board.specs.declared.Phase.TheVariants.{Off, Formatting, Recovering, Running}
use Rattle.board.specs.declared.Call.{Call}
use Rattle.board.specs.declared.Call.TheVariants.{Step, TakeLock, GiveBackLock}
use Rattle.board.specs.Board.{Board}
use Rattle.board.specs.State.{condition_of, placed, opened, released}
use Rattle.board.specs.Effects.{perform_act, perform_first, past_stop, format_step, step, advance, advance_of, effect}
use Rattle.board.specs.Checkpoint.{Act, write_line, store_epoch, write_header, release, acts}
use Rattle.board.specs.Next.{next, taken, kind, is_start}
use Rattle.board.specs.Locks.{HoldersStay}
use Rattle.predicate.proofs.Bools.{on}
use Rattle.board.proofs.Laws.Taken.{ByEffect, quiet, the_format, the_recovery, the_step, the_update, the_restart, the_advance, the_request, the_write_back, the_going, the_coming, the_taking, the_giving, by-effect}
use Rattle.board.proofs.Recovery.Board.{recovery-cases, past_cases}
use Rattle.board.proofs.Checkpoint.Acts.{effect-acts}

-- What holds of a record, of it at another place, opened and released holds of what a step leaves of it.
pub step-record : (P : State → Type 0) (b : Board) → P b.state → ((place : ℕ) (undo : UndoStep) → P (placed b.state place undo)) →
    ((dirty : List ℕ) → P (opened b.state dirty)) → P (released b.state) → P (effect Step b).state
unfolding effect step format_step perform_act perform_first
step-record P b same moved ended freed = go b.state.phase refl
  where
    s : State
    s = b.state

    past : P (past_stop s)
    past = past_cases P s (λ h. moved _ _) (λ h. ended s.dirty)

    first : (xs : List Act) → P (perform_first xs s b).state
    first [] = same
    first (write_line l ∷ later) = moved _ _
    first (store_epoch ∷ later) = moved _ _
    first (write_header ∷ later) = moved _ _
    first (release ∷ later) = freed

    go : (p : Phase) → s.phase ≡ p → P (effect Step b).state
    go Off e = subst (λ (p : Phase). P (step p s b).state) (sym e) same
    go Formatting e =
        subst (λ (p : Phase). P (step p s b).state) (sym e)
        (on (λ (d : Board). P d.state) (leb s.place s.lines) _ _ (λ t. moved (s.place + 1) s.undo) (λ t. ended _))
    go Recovering e = recovery-cases (λ (d : Board). P d.state) b e (λ q t. moved _ _) (λ q t. past) (λ q. moved _ _) (λ q. past)
    go Running e = subst (λ (d : Board). P d.state) (sym (effect-acts b e refl)) (first (acts b))

-- ---- who changes a lock's holder

advance-holders : (n : Store) (w c v : ℕ) (b : Board) → (advance n w c v b.state b).state.holders ≡ b.state.holders
unfolding advance
advance-holders Backup w c v b = refl
advance-holders Mark w c v b = refl
advance-holders Record w c v b = refl

advances-holders : (k : Condition) (w : ℕ) (b : Board) → (advance_of k w b.state b).state.holders ≡ b.state.holders
unfolding advance_of
advances-holders Free w b = refl
advances-holders Waiting w b = refl
advances-holders (Updating n c v) w b = advance-holders n w c v b
advances-holders Away w b = refl

-- What a taken call does to the holders.
effect-holders : {k : Call} → ByEffect k → (b : Board) → is_start (kind k) ≡ false → ((w j : ℕ) → k ≡ TakeLock w j → ⊥) → ((w j : ℕ) → k ≡ GiveBackLock w j → ⊥) →
    (effect k b).state.holders ≡ b.state.holders
unfolding effect
effect-holders (quiet q) b s t g = ap (λ (d : Board). d.state.holders) (q.leaves b)
effect-holders (the_format l w) b s t g = absurd (true≢false s)
effect-holders the_recovery b s t g = absurd (true≢false s)
effect-holders the_step b s t g = step-record (λ (x : State). x.holders ≡ b.state.holders) b refl (λ place undo. refl) (λ dirty. refl) refl
effect-holders (the_update w c v) b s t g = refl
effect-holders (the_restart w v) b s t g = refl
effect-holders (the_advance w) b s t g = advances-holders (condition_of b.state w) w b
effect-holders the_request b s t g = refl
effect-holders (the_write_back l) b s t g = refl
effect-holders (the_going w) b s t g = refl
effect-holders (the_coming w) b s t g = refl
effect-holders (the_taking w k) b s t g = absurd (t w k refl)
effect-holders (the_giving w k) b s t g = absurd (g w k refl)

-- Only the starts and the two calls change a lock's holder.
pub holders-stay : HoldersStay
unfolding next
holders-stay k b s t g = on (λ (d : Board). d.state.holders ≡ b.state.holders) (taken k b) (effect k b) b (λ e. effect-holders (by-effect k) b s t g) (λ e. refl)
