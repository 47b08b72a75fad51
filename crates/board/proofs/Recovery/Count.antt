-- How many steps a recovery has left, and that each step leaves one fewer.
use Prim.Native.Nat.{ℕ, zero, suc, ◌+◌, ◌-◌, ◌≤◌, ◌<◌}
use mathlib.Core.Path.{◌≡◌, refl, ap}
use mathlib.Core.Logic.{◌⊎◌, inl, inr}
use mathlib.Core.List.{List}
use mathlib.Core.Bool.{Bool, true, false, cond}
use native.Mathlib.Omega.{arith}
use Rattle.board.specs.declared.State.{State}
use Rattle.board.specs.declared.UndoStep.{UndoStep}
use Rattle.board.specs.declared.UndoStep.TheVariants.{Restore, Unmark, WriteLine}
use Rattle.board.specs.declared.Phase.TheVariants.{Recovering, Running}
use Rattle.board.specs.declared.Call.TheVariants.{RecoveryStart, Step}
use Rattle.board.specs.Board.{Board, Shape, shape_of, shape_in}
use Rattle.board.specs.Location.{stops, stop_at, stop_line, undoes, restored, unmarked}
use Rattle.board.specs.Effects.{written_back, stop_of, past_stop, effect}
use Rattle.board.specs.Sequence.{undo_steps, recovery_steps}
use Rattle.predicate.proofs.Bools.{chosen, passed_over}
use Rattle.board.proofs.Laws.Only.{OnlyAt}
use Rattle.board.proofs.Recovery.Stops.{only-restored, only-unmarked, undoes-other}
use Rattle.board.proofs.Recovery.Board.{recovery-cases, past_cases}

-- ---- the steps of stops

-- The steps for one stop: "a cell whose mark equals the epoch takes three steps, any other one".
abbrev pub stop_steps : Shape → List ℕ → ℕ → ℕ
stop_steps σ row c = cond (undoes row (stop_at σ c)) 3 1

-- The steps for `n` stops from place `c` on.
unfoldable pub steps_for : Shape → List ℕ → ℕ → ℕ → ℕ
steps_for σ row c zero = 0
steps_for σ row c (suc n) = stop_steps σ row c + steps_for σ row (c + 1) n

-- The steps for all stops from place `c` on.
abbrev pub steps_on : List ℕ → Shape → ℕ → ℕ
steps_on row σ c = steps_for σ row c (stops σ - c)

-- The steps left at cell `c`, by the step that is next there.
unfoldable pub steps_left : UndoStep → List ℕ → Shape → ℕ → ℕ
steps_left Restore row σ c = steps_on row σ c
steps_left Unmark row σ c = 2 + steps_on row σ (c + 1)
steps_left WriteLine row σ c = 1 + steps_on row σ (c + 1)

-- The steps that a recovery has left.
abbrev pub remaining : Board → ℕ
remaining b = steps_left b.state.undo b.cache (shape_of b.state) b.state.place

-- The steps for a cell and those after it.
steps-here : (row : List ℕ) (σ : Shape) (c : ℕ) → c < stops σ → steps_on row σ c ≡ stop_steps σ row c + steps_on row σ (c + 1)
unfolding steps_for
steps-here row σ c h =
    let q : stops σ - c ≡ suc (stops σ - (c + 1)) = omega arith in
    ap (steps_for σ row c) q

-- No steps are left past the last cell.
steps-past : (row : List ℕ) (σ : Shape) (c : ℕ) → stops σ ≤ c → steps_on row σ c ≡ 0
unfolding steps_for
steps-past row σ c h =
    let q : stops σ - c ≡ 0 = omega arith in
    ap (steps_for σ row c) q

-- The steps for the cells under `c` and for `n` more are those for the cells under `c + n`.
steps-sum : (σ : Shape) (row : List ℕ) (n c : ℕ) → undo_steps σ row c + steps_for σ row c n ≡ undo_steps σ row (c + n)
unfolding undo_steps steps_for
steps-sum σ row zero c =
    let z : c ≡ c + 0 = omega arith in
    omega (arith, ap (undo_steps σ row) z)
steps-sum σ row (suc n) c =
    let a : c + 1 ≡ suc c = omega arith in
    let z : c + 1 + n ≡ c + suc n = omega arith in
    omega (arith, steps-sum σ row n (c + 1), ap (undo_steps σ row) a, ap (undo_steps σ row) z)

-- Rows in which the stops from `c` on have alike something to undo take equally many steps for them.
steps_alike : (σ : Shape) (row row' : List ℕ) (n c : ℕ) → ((d : ℕ) → c ≤ d → d < c + n → undoes row' (stop_at σ d) ≡ undoes row (stop_at σ d)) →
    steps_for σ row' c n ≡ steps_for σ row c n
unfolding steps_for
steps_alike σ row row' zero c f = refl
steps_alike σ row row' (suc n) c f =
    let q : stop_steps σ row' c ≡ stop_steps σ row c = ap (λ (t : Bool). cond t 3 1) (f c (omega arith) (omega arith)) in
    omega (arith, q, steps_alike σ row row' n (c + 1) (λ d h k. f d (omega arith) (omega arith)))

-- A change at one place changes no step of the stops after it.
steps-only : (σ : Shape) (c : ℕ) (row row' : List ℕ) → OnlyAt σ c row row' → steps_on row' σ (c + 1) ≡ steps_on row σ (c + 1)
steps-only σ c row row' only = steps_alike σ row row' (stops σ - (c + 1)) (c + 1) (λ d h k. undoes-other σ row row' only d (omega arith) (λ q. omega arith))

-- ---- the steps of a recovery

-- At its start a recovery has the steps that memory calls for.
pub remaining-start : (b : Board) → remaining (effect RecoveryStart b) ≡ recovery_steps b.memory
unfolding effect steps_left undo_steps
remaining-start b =
    let σ = shape_in b.memory in
    let z : 0 + (stops σ - 0) ≡ stops σ = omega arith in
    omega (arith, steps-sum σ b.memory (stops σ - 0) 0, ap (undo_steps σ b.memory) z)

-- A recovery has a step left.
pub remaining-positive : (b : Board) → b.state.place < stops (shape_of b.state) → 1 ≤ remaining b
unfolding steps_left
remaining-positive b h = positive b.state.undo
  where
    one : (t : Bool) → 1 ≤ cond t 3 1
    one true = omega arith
    one false = omega arith

    positive : (u : UndoStep) → 1 ≤ steps_left u b.cache (shape_of b.state) b.state.place
    positive Restore = omega (arith, steps-here b.cache (shape_of b.state) b.state.place h, one (undoes b.cache (stop_of b.state)))
    positive Unmark = omega arith
    positive WriteLine = omega arith

-- What a step leaves of a recovery with `n` steps left: one fewer, or, after the last, a running board.
abbrev pub OneFewer : ℕ → Board → Type 0
OneFewer n b = ((b.state.phase ≡ Recovering) × (remaining b + 1 ≡ n)) ⊎ ((b.state.phase ≡ Running) × (n ≡ 1))

-- The step past a cell.
steps-past-cell : (b : Board) (memory : List ℕ) (n : ℕ) → b.state.phase ≡ Recovering → n ≡ 1 + steps_on b.cache (shape_of b.state) (b.state.place + 1) →
    OneFewer n (record { state = past_stop b.state; memory = memory; cache = b.cache })
unfolding steps_left
steps-past-cell b memory n e q =
    past_cases (λ (s : State). OneFewer n (record { state = s; memory = memory; cache = b.cache })) b.state
    (λ h. inl (e, omega arith))
    (λ h. inr (refl, omega (arith, steps-past b.cache (shape_of b.state) (b.state.place + 1) h)))

-- A step leaves one step fewer, or it is the last and the board then runs.
pub remaining-step : (b : Board) → b.state.phase ≡ Recovering → b.state.place < stops (shape_of b.state) →
    (((effect Step b).state.phase ≡ Recovering) × (remaining (effect Step b) + 1 ≡ remaining b)) ⊎ (((effect Step b).state.phase ≡ Running) × (remaining b ≡ 1))
unfolding steps_left
remaining-step b e h =
    recovery-cases (OneFewer (remaining b)) b e
    (λ q t. inl (e, omega (arith, at Restore q, steps-here row σ c h, chosen {A = ℕ} (undoes row (stop_at σ c)) 3 1 t, steps-only σ c row (restored row (stop_at σ c)) (only-restored σ c row h))))
    (λ q t. steps-past-cell b b.memory (remaining b) e (omega (arith, at Restore q, steps-here row σ c h, passed_over {A = ℕ} (undoes row (stop_at σ c)) 3 1 t)))
    (λ q. inl (e, omega (arith, at Unmark q, steps-only σ c row (unmarked row (stop_at σ c)) (only-unmarked σ c row h))))
    (λ q. steps-past-cell b (written_back (stop_line (stop_at σ c)) b) (remaining b) e (at WriteLine q))
  where
    row : List ℕ
    row = b.cache

    σ : Shape
    σ = shape_of b.state

    c : ℕ
    c = b.state.place

    at : (u : UndoStep) → b.state.undo ≡ u → remaining b ≡ steps_left u row σ c
    at u q = ap (λ (x : UndoStep). steps_left x row σ c) q
