-- A requested checkpoint with all workers waiting or away ends in as many steps as acts are left of it, each of them taken; those that were away stay away.
use Prim.Native.Nat.{ℕ, zero, suc, ◌+◌, ◌≤◌}
use mathlib.Core.Path.{◌≡◌, refl, sym, ap, subst, ◌∙◌}
use mathlib.Core.Logic.{◌⊎◌, inl, inr}
use mathlib.Core.List.{List, ◌∷◌}
use mathlib.Core.Bool.{true, false, not, ◌&&◌, ◌||◌, false≢true}
use native.Mathlib.Omega.{arith}
use lib.ListN.{length}
use borrow.Author.Tests.{ne_eqb}
use Rattle.board.specs.declared.State.{State}
use Rattle.board.specs.declared.Worker.{Worker}
use Rattle.board.specs.declared.Condition.TheVariants.{Waiting, Away}
use Rattle.board.specs.declared.Phase.TheVariants.{Running}
use Rattle.board.specs.declared.Call.TheVariants.{Step}
use Rattle.board.specs.Board.{Board, Shape, epoch_of, last_epoch}
use Rattle.board.specs.State.{condition_of, is_off, is_running, quiescent, any_worker, placed, released, dirty_count}
use Rattle.board.specs.Checkpoint.{Act, acts, stores_epoch}
use Rattle.board.specs.Causes.{causes, checkpointing, epoch_spent}
use Rattle.board.specs.Effects.{stated, perform_act, perform_first, effect}
use Rattle.board.specs.Next.{next, Taken}
use Rattle.board.specs.Machine.{Machine}
use Rattle.board.specs.Sequence.{Run}
use Rattle.board.specs.Statements.{AllWaitOrAway, KeepsAway, steps_from, AllTaken, EndsIn}
use Rattle.predicate.proofs.Bools.{chosen, or-none, and_right, and-off, and-off-right, and-if, not_on_lem}
use Rattle.board.proofs.Invariant.{AllQuiescent, Stage, early, gap, late, Inv}
use Rattle.board.proofs.Laws.Taken.{Clear, take, taken_next, none-worker, after_taken}
use Rattle.board.proofs.Laws.Workers.{released-away}
use Rattle.board.proofs.Laws.Idle.{ends_more}
use Rattle.board.proofs.Laws.Reading.{some_left, running-passes}
use Rattle.board.proofs.Checkpoint.Run.{is-running, running-run}
use Rattle.board.proofs.Checkpoint.Acts.{Remains, line_next, epoch_next, header_next, release_next, remains, acts-length, acts-next, effect-acts}
use Rattle.board.proofs.Keeps.CheckpointStep.{carried-checkpoint-step}

-- ---- each step is taken

-- A list of acts that begins with the epoch's store, of those that can be left, has three.
epoch-left : {b : Board} (xs : List Act) → Remains b xs → stores_epoch xs ≡ true → length xs ≡ 3
unfolding stores_epoch
epoch-left xs (line_next later low three) t = absurd (false≢true t)
epoch-left xs epoch_next t = refl
epoch-left xs header_next t = absurd (false≢true t)
epoch-left xs release_next t = absurd (false≢true t)

-- Up to the epoch's store a requested checkpoint has an epoch to go to.
room : {σ : Shape} (b : Board) (m : Machine) → b.state.requested ≡ true → Stage σ b m → 3 ≤ length (acts b) → epoch_of b.cache ≡ last_epoch → ⊥
room b m on (early a) h = a.room on
room b m on (gap g) h = absurd (omega (arith, g.left))
room b m on (late a) h = absurd (omega (arith, a.high))

-- A worker that waits or is away holds nothing up.
pub all-quiescent : (s : State) → AllWaitOrAway s → AllQuiescent s
all-quiescent s f w h = by (f w h)
  where
    by : (condition_of s w ≡ Waiting) ⊎ (condition_of s w ≡ Away) → quiescent (condition_of s w) ≡ true
    by (inl e) = ap quiescent e
    by (inr e) = ap quiescent e

-- A requested checkpoint of a running board that all workers wait for.
record Awaited (r : Run) : Type 0 where
  inv : Inv r
  uncut : r.crashed ≡ false
  phase : r.board.state.phase ≡ Running
  request : r.board.state.requested ≡ true
  waiting : AllQuiescent r.board.state

-- What is left of it.
left-of : (r : Run) → Awaited r → Remains r.board (acts r.board)
left-of r g = remains r.board (some_left (running-run r g.inv g.uncut g.phase).running.checkpoint.stage)

-- Its step is taken.
step-taken : (r : Run) → Awaited r → Taken Step r.board
unfolding Clear causes
step-taken r g =
    let b = r.board in
    let s = b.state in
    let y = running-passes r g.inv g.uncut g.phase in
    let stage = (running-run r g.inv g.uncut g.phase).running.checkpoint.stage in
    take Step b (
      ap is_off g.phase,
      (
        y.state,
        (
          y.rows,
          (
            and-off-right (is_running s.phase) (not s.requested || any_worker s (λ d. not (quiescent d)))
                (or-none (not s.requested) (any_worker s (λ d. not (quiescent d))) (not_on_lem s.requested g.request)
                (none-worker s (λ d. not (quiescent d)) (λ w h. not_on_lem (quiescent (condition_of s w)) (g.waiting w h)))),
            (
              and-if (checkpointing s && stores_epoch (acts b)) (epoch_spent b)
                  (λ t. ne_eqb (epoch_of b.cache) last_epoch
                  (room b r.machine g.request stage (omega (arith, epoch-left (acts b) (left-of r g) (and_right (checkpointing s) (stores_epoch (acts b)) t))))),
              tt,
            ),
          ),
        ),
      ),
    )

-- ---- each step leads to the next

-- The steps from board `b` end, and leave those away that were.
abbrev EndsAway : ℕ → Board → Type 0
EndsAway n b = EndsIn n b × KeepsAway b.state (steps_from n b).state

-- The steps after one that keeps the workers.
ends-after : (n : ℕ) (b d : Board) → Taken Step b → next Step b ≡ d → d.state.worker ≡ b.state.worker → EndsAway n d → EndsAway (suc n) b
unfolding steps_from
ends-after n b d t e same rest = (
  ends_more n b d t e rest.0,
  subst (λ (x : Board). KeepsAway b.state (steps_from n x).state) (sym e)
      (subst (λ (ws : List Worker). KeepsAway (record { phase = b.state.phase; lines = b.state.lines; workers = b.state.workers; place = b.state.place; undo = b.state.undo; requested = b.state.requested; holders = b.state.holders; dirty = b.state.dirty; worker = ws }) (steps_from n d).state) same rest.1),
)

-- An act that goes on to the next place leaves a checkpoint that all wait for, with the later acts left.
awaited-on : (r : Run) {act : Act} {later : List Act} {memory cache : List ℕ} → Awaited r → acts r.board ≡ act ∷ later → perform_act act r.board.state r.board ≡ record { state = placed r.board.state (r.board.state.place + 1) r.board.state.undo; memory = memory; cache = cache } →
    Awaited (after_taken Step r) × (acts (effect Step r.board) ≡ later) × ((effect Step r.board).state.worker ≡ r.board.state.worker)
unfolding perform_first
awaited-on r {memory = memory} {cache = cache} g p q =
    let e = effect-acts r.board g.phase p ∙ q in (
      record {
        inv = (carried-checkpoint-step r g.inv g.uncut g.phase (step-taken r g)).keeps;
        uncut = and-off r.crashed true g.uncut;
        phase = ap (λ (b : Board). b.state.phase) e ∙ g.phase;
        request = ap (λ (b : Board). b.state.requested) e ∙ g.request;
        waiting = subst (λ (b : Board). AllQuiescent b.state) (sym e) g.waiting;
      },
      ap acts e ∙ acts-next r.board memory cache g.request p,
      ap (λ (b : Board). b.state.worker) e,
    )

-- The next step, where the steps after it end.
step-ends : (n : ℕ) (r : Run) (xs : List Act) → Awaited r → acts r.board ≡ xs → Remains r.board xs → length xs ≡ suc n →
    (Awaited (after_taken Step r) → length (acts (effect Step r.board)) ≡ n → EndsAway n (effect Step r.board)) → EndsAway (suc n) r.board
unfolding steps_from AllTaken perform_act perform_first
step-ends n r xs g p left e rest = by left p e
  where
    b : Board
    b = r.board

    t : Taken Step b
    t = step-taken r g

    further : {later : List Act} → length later ≡ n →
        Awaited (after_taken Step r) × (acts (effect Step b) ≡ later) × ((effect Step b).state.worker ≡ b.state.worker) → EndsAway (suc n) b
    further q on = ends-after n b (effect Step b) t (taken_next Step b t) on.2 (rest on.0 (ap length on.1 ∙ q))

    last : (k : ℕ) → k ≡ 0 → next Step b ≡ stated (released b.state) b → EndsAway (suc k) b
    last k z q =
        subst (λ (j : ℕ). EndsAway (suc j) b) (sym z) (
          ends_more zero b (stated (released b.state) b) t q (tt, ap is_running g.phase, refl),
          subst (λ (x : Board). KeepsAway b.state x.state) (sym q) (released-away b.state),
        )

    by : {ys : List Act} → Remains b ys → acts b ≡ ys → length ys ≡ suc n → EndsAway (suc n) b
    by (line_next later low three) q f = further (omega (arith, f)) (awaited-on r g q refl)
    by epoch_next q f = further (omega (arith, f)) (awaited-on r g q refl)
    by header_next q f = further (omega (arith, f)) (awaited-on r g q refl)
    by release_next q f = last n (omega (arith, f)) (taken_next Step b t ∙ effect-acts b g.phase q)

-- As many steps as acts are left lead to the release.
ends : (n : ℕ) (r : Run) → Awaited r → length (acts r.board) ≡ n → EndsAway n r.board
ends zero r g e = absurd (omega (arith, some_left (running-run r g.inv g.uncut g.phase).running.checkpoint.stage))
ends (suc n) r g e = step-ends n r (acts r.board) g refl (left-of r g) e (λ h f. ends n (after_taken Step r) h f)

-- A requested checkpoint ends from whatever place it has reached, where the invariant holds.
pub checkpoint-ends : (r : Run) → Inv r → r.crashed ≡ false → is_running r.board.state.phase ≡ true → r.board.state.requested ≡ true →
    AllWaitOrAway r.board.state → (left : ℕ) → r.board.state.place + left ≡ dirty_count r.board.state + 3 →
    EndsIn left r.board × KeepsAway r.board.state (steps_from left r.board).state
checkpoint-ends r inv d e on wait left h =
    ends left r (record { inv = inv; uncut = d; phase = is-running r.board.state.phase e; request = on; waiting = all-quiescent r.board.state wait })
    (omega (arith, acts-length r.board, chosen r.board.state.requested r.board.state.place 0 on))
