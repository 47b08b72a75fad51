-- The workers of a state record: one put in another condition, all eight free, and what the release leaves.
use Prim.Native.Nat.{ℕ, zero, suc, ◌<◌}
use mathlib.Core.Path.{◌≡◌, refl, sym, ap, ◌∙◌}
use mathlib.Core.List.{List}
use mathlib.Core.Bool.{true, false, false≢true}
use native.Mathlib.Omega.{arith}
use native.Mathlib.Decide.{dec_lt}
use lib.ListN.{length, get_or, replicate, get_or-eq_default}
use lib.Seq.{get_or-set_same, get_or-set_other}
use Rattle.board.specs.declared.State.{State}
use Rattle.board.specs.declared.Worker.{Worker}
use Rattle.board.specs.declared.Condition.{Condition}
use Rattle.board.specs.declared.Condition.TheVariants.{Free, Waiting, Updating, Away}
use Rattle.board.specs.State.{free_worker, all_free, condition_of, is_free, is_away, after_release, released, conditioned}
use Rattle.board.specs.Statements.{KeepsAway}

-- ---- a condition by its test

-- A worker that passes the test for a free one is free.
pub is_free_lem : (k : Condition) → is_free k ≡ true → k ≡ Free
is_free_lem Free e = refl
is_free_lem Waiting e = absurd (false≢true e)
is_free_lem (Updating next c v) e = absurd (false≢true e)
is_free_lem Away e = absurd (false≢true e)

-- One that passes the test for one away is away.
pub is-away : (k : Condition) → is_away k ≡ true → k ≡ Away
is-away Free e = absurd (false≢true e)
is-away Waiting e = absurd (false≢true e)
is-away (Updating next c v) e = absurd (false≢true e)
is-away Away e = refl

-- ---- one worker in another condition

-- The worker has its new condition.
pub condition-at : (s : State) (w : ℕ) (condition : Condition) → w < length s.worker → condition_of (conditioned s w condition) w ≡ condition
condition-at s w condition h = ap (λ (x : Worker). x.condition) (get_or-set_same s.worker w (record { condition = condition }) free_worker h)

-- Every other worker has its old one.
pub condition-other : (s : State) (w : ℕ) (condition : Condition) (u : ℕ) → (w ≡ u → ⊥) → condition_of (conditioned s w condition) u ≡ condition_of s u
condition-other s w condition u o =
    ap (λ (x : Worker). x.condition) (get_or-set_other s.worker w u (record { condition = condition }) free_worker (λ e. o (sym e)))

-- A worker that is not free is one of the record's.
pub busy-within : (s : State) (w : ℕ) {k : Condition} → is_free k ≡ false → condition_of s w ≡ k → w < length s.worker
busy-within s w f e =
    elim (dec_lt w (length s.worker)) [
      | yes h ↦ h
      | no h ↦ absurd (false≢true (sym f ∙ ap is_free (sym e ∙ ap (λ (k : Worker). k.condition) (get_or-eq_default s.worker free_worker (omega arith)))))
    ]

-- ---- all eight free

-- A row of one thing has it at every place.
all_alike : (n i : ℕ) (a : Worker) → get_or (replicate n a) i a ≡ a
all_alike zero i a = refl
all_alike (suc n) zero a = refl
all_alike (suc n) (suc i) a = all_alike n i a

-- Where all eight workers are free, each is.
pub free-condition : (s : State) (w : ℕ) → s.worker ≡ all_free → condition_of s w ≡ Free
free-condition s w e =
    ap (λ (ws : List Worker). (get_or ws w free_worker).condition) e ∙ ap (λ (k : Worker). k.condition) (all_alike 8 w free_worker)

-- ---- the release

-- Each of the eight has the condition that the release leaves it in.
pub released-condition : (s : State) (w : ℕ) → w < 8 → condition_of (released s) w ≡ after_release (condition_of s w)
released-condition s zero h = refl
released-condition s (suc zero) h = refl
released-condition s (suc (suc zero)) h = refl
released-condition s (suc (suc (suc zero))) h = refl
released-condition s (suc (suc (suc (suc zero)))) h = refl
released-condition s (suc (suc (suc (suc (suc zero))))) h = refl
released-condition s (suc (suc (suc (suc (suc (suc zero)))))) h = refl
released-condition s (suc (suc (suc (suc (suc (suc (suc zero))))))) h = refl
released-condition s (suc (suc (suc (suc (suc (suc (suc (suc w)))))))) h = absurd (omega arith)

-- A worker that is away stays so, and any other is freed.
after-release : (k : Condition) → (k ≡ Away → after_release k ≡ Away) × ((k ≡ Away → ⊥) → after_release k ≡ Free)
after-release Free = (λ e. absurd (false≢true (ap is_away e)), λ o. refl)
after-release Waiting = (λ e. absurd (false≢true (ap is_away e)), λ o. refl)
after-release (Updating next c v) = (λ e. absurd (false≢true (ap is_away e)), λ o. refl)
after-release Away = (λ e. refl, λ o. absurd (o refl))

-- The release leaves those away that were, and frees the others.
pub released-away : (s : State) → KeepsAway s (released s)
released-away s w h =
    let e = released-condition s w h in
    let k = after-release (condition_of s w) in
    (λ a. e ∙ k.0 a, λ o. e ∙ k.1 o)
