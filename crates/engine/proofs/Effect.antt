-- What each call's effect is made of.
use Prim.Native.Nat.{ℕ}
use mathlib.Core.Path.{◌≡◌, refl, sym, ap, ◌∙◌}
use mathlib.Core.List.{List}
use Rattle.line.specs.Line.{line_of, with_line}
use Rattle.locks.specs.Holders.{held_by, given_back}
use Rattle.board.specs.declared.State.{State}
use Rattle.board.specs.declared.Phase.{Phase}
use Rattle.board.specs.declared.Phase.TheVariants.{Formatting, Recovering}
use Rattle.board.specs.declared.Condition.{Condition}
use Rattle.board.specs.declared.Condition.TheVariants.{Free, Away}
use Rattle.board.specs.declared.Call.{Call}
use Rattle.board.specs.Board.{Board, shaped, shape_in, workers_of}
use Rattle.board.specs.State.{condition_of, started, requesting, conditioned, locked}
use Rattle.board.specs.Effects.{noted, advance_of, step, effect}
use Rattle.board.specs.Next.{lent}
use Rattle.effects.proofs.Effects.{same-board}

-- ---- the step and the advance, whole

-- A step in the phase that the board is in.
pub in-phase : (s : State) (m c : List ℕ) {phase : Phase} {b' : Board} → s.phase ≡ phase → b' ≡ step phase s (lent s m c) → b' ≡ effect Call.Step (lent s m c)
unfolding effect
in-phase s m c p e = e ∙ ap (λ (x : Phase). step x s (lent s m c)) (sym p)

-- An advance in the condition that the worker is in.
pub in-condition : (w : ℕ) (s : State) (m c : List ℕ) {k : Condition} {b' : Board} → condition_of s w ≡ k → b' ≡ advance_of k w s (lent s m c) →
    b' ≡ effect (Call.Advance w) (lent s m c)
unfolding effect
in-condition w s m c p e = e ∙ ap (λ (x : Condition). advance_of x w s (lent s m c)) (sym p)

-- ---- the other calls

module _ (s : State) (m c : List ℕ) where
  pub starts-format : {s' : State} (l w : ℕ) → s' ≡ started Formatting (shaped l) w → lent s' m c ≡ effect (Call.FormatStart l w) (lent s m c)
  unfolding effect
  starts-format l w p = same-board p refl refl

  pub starts-recovery : {s' : State} {c' : List ℕ} → s' ≡ started Recovering (shape_in m) (workers_of m) → c' ≡ m →
      lent s' m c' ≡ effect Call.RecoveryStart (lent s m c)
  unfolding effect
  starts-recovery p q = same-board p refl q

  pub starts-update : {b' : Board} (w cell v : ℕ) → b' ≡ noted w cell v (lent s m c) → b' ≡ effect (Call.Update w cell v) (lent s m c)
  unfolding effect
  starts-update w cell v e = e

  pub starts-restart : {b' : Board} (w v : ℕ) → b' ≡ noted w w v (lent s m c) → b' ≡ effect (Call.RestartPoint w v) (lent s m c)
  unfolding effect
  starts-restart w v e = e

  pub requests : {s' : State} → s' ≡ requesting s → lent s' m c ≡ effect Call.Request (lent s m c)
  unfolding effect
  requests p = same-board p refl refl

  pub goes-away : {s' : State} (w : ℕ) → s' ≡ conditioned s w Away → lent s' m c ≡ effect (Call.GoAway w) (lent s m c)
  unfolding effect
  goes-away w p = same-board p refl refl

  pub comes_back_lem : {s' : State} (w : ℕ) → s' ≡ conditioned s w Free → lent s' m c ≡ effect (Call.ComeBack w) (lent s m c)
  unfolding effect
  comes_back_lem w p = same-board p refl refl

  pub takes-lock : {s' : State} (w k : ℕ) → s' ≡ locked s (held_by s.holders k w) → lent s' m c ≡ effect (Call.TakeLock w k) (lent s m c)
  unfolding effect
  takes-lock w k p = same-board p refl refl

  pub gives-lock-back : {s' : State} (w k : ℕ) → s' ≡ locked s (given_back s.holders k) → lent s' m c ≡ effect (Call.GiveBackLock w k) (lent s m c)
  unfolding effect
  gives-lock-back w k p = same-board p refl refl

  pub writes-back : {m' : List ℕ} (l : ℕ) → m' ≡ with_line m l (line_of c l) → lent s m' c ≡ effect (Call.WriteBack l) (lent s m c)
  unfolding effect
  writes-back l q = same-board refl q refl

  pub reads : (cell : ℕ) → lent s m c ≡ effect (Call.Read cell) (lent s m c)
  unfolding effect
  reads cell = refl

  pub counts : lent s m c ≡ effect Call.Count (lent s m c)
  unfolding effect
  counts = refl
