-- The calls up to a release, from a board whose workers all wait or are away: each taken step performs the first of the acts that are left.
use Prim.Native.Nat.{ℕ, suc, ◌+◌}
use mathlib.Core.Path.{◌≡◌, refl, sym, ap, subst, ◌∙◌}
use mathlib.Core.List.{List, [], ◌∷◌, map}
use mathlib.Core.Bool.{true, false, not, ◌||◌, true≢false, false≢true}
use native.Mathlib.Decide.{ℕ_discrete}
use lib.Dec.{leb}
use lib.ListN.{length, drop}
use borrow.Author.Tests.{leb-false}
use Rattle.predicate.proofs.Bools.{passed_over, clash}
use Rattle.locks.specs.Holders.{given_back}
use Rattle.board.specs.declared.Condition.{Condition}
use Rattle.board.specs.declared.Condition.TheVariants.{Free, Waiting, Updating, Away}
use Rattle.board.specs.declared.Phase.TheVariants.{Running}
use Rattle.board.specs.declared.Call.{Call}
use Rattle.board.specs.declared.Call.TheVariants.{Step, Update, RestartPoint, Advance, Request, GoAway, TakeLock}
use Rattle.board.specs.Board.{Board}
use Rattle.board.specs.State.{condition_of, is_free, is_updating, quiescent, placed, locked}
use Rattle.board.specs.Checkpoint.{Act, store_epoch, write_header, release, planned, acts}
use Rattle.board.specs.Causes.{causes}
use Rattle.board.specs.Effects.{perform_act, perform_first, effect}
use Rattle.board.specs.Next.{Taken, kind, is_start, is_step}
use Rattle.board.specs.Foretold.{ToRelease, releases, steps, between, stays, comes_back, Wrote, StepsWrite}
use Rattle.board.proofs.Laws.Taken.{stands_at, passed, performed-taken, performed-refused, ByEffect, quiet, the_format, the_recovery, the_step, the_update, the_restart, the_advance, the_request, the_write_back, the_going, the_coming, the_taking, the_giving, by-effect}
use Rattle.board.proofs.Laws.Quiet.{quiet-board}
use Rattle.board.proofs.Invariant.{AllQuiescent}
use Rattle.board.proofs.Checkpoint.Acts.{Remains, line_next, epoch_next, header_next, release_next, acts-next, effect-acts, Stepping, step-ready}
use Rattle.board.proofs.Foretold.Rising.{writes}

-- ---- boards whose workers wait

-- A running board, every worker under W waiting or away.
pub record Waits (b : Board) : Type 0 where
  pub phase : b.state.phase ≡ Running
  pub workers : AllQuiescent b.state

-- What a call other than a step leaves of such a board: it waits still, with the same acts left.
record Stays (b b' : Board) : Type 0 where
  waits : Waits b'
  left : acts b' ≡ acts b

-- A worker that waits or is away is neither free nor in an update.
none_free : (k : Condition) → quiescent k ≡ true → not (is_free k) ≡ false → ⊥
none_free Free q e = false≢true q
none_free Waiting q e = true≢false e
none_free (Updating next c v) q e = false≢true q
none_free Away q e = true≢false e

none-updates : (k : Condition) → quiescent k ≡ true → not (is_updating k) ≡ false → ⊥
none-updates Free q e = false≢true q
none-updates Waiting q e = true≢false e
none-updates (Updating next c v) q e = false≢true q
none-updates Away q e = true≢false e

module _ (b : Board) (y : Waits b) where
  -- No worker under W is free or in an update.
  not_free : (w : ℕ) → leb b.state.workers w ≡ false → not (is_free (condition_of b.state w)) ≡ false → ⊥
  not_free w u e = none_free (condition_of b.state w) (y.workers w (leb-false b.state.workers w u)) e

  not-updating : (w : ℕ) → leb b.state.workers w ≡ false → not (is_updating (condition_of b.state w)) ≡ false → ⊥
  not-updating w u e = none-updates (condition_of b.state w) (y.workers w (leb-false b.state.workers w u)) e

  -- A call that leaves the record, but for the locks' holders, leaves all of it.
  stays_same : (memory : List ℕ) (holders : ℕ) → Stays b (record { state = locked b.state holders; memory = memory; cache = b.cache })
  unfolding acts
  stays_same memory holders = record { waits = record { phase = y.phase; workers = y.workers }; left = refl }

  -- A taken call other than a start, a step or a coming back.
  call_stays : {k : Call} → ByEffect k → Taken k b → is_start (kind k) || is_step (kind k) || comes_back k ≡ false → Stays b (effect k b)
  unfolding stands_at causes effect acts
  call_stays (quiet q) t o = subst (Stays b) (sym (q.leaves b)) (stays_same b.memory b.state.holders)
  call_stays (the_format l w) t o = absurd (true≢false o)
  call_stays the_recovery t o = absurd (true≢false o)
  call_stays the_step t o = absurd (true≢false o)
  call_stays (the_update w c v) t o = absurd (not_free w (passed (Update w c v) b t 6) (passed (Update w c v) b t 8))
  call_stays (the_restart w v) t o = absurd (not_free w (passed (RestartPoint w v) b t 6) (passed (RestartPoint w v) b t 8))
  call_stays (the_advance w) t o = absurd (not-updating w (passed (Advance w) b t 6) (passed (Advance w) b t 8))
  call_stays the_request t o =
      record {
        waits = record { phase = y.phase; workers = y.workers };
        left = ap (λ (k : ℕ). drop k (planned b)) (sym (passed_over b.state.requested b.state.place 0 (passed Request b t 10)));
      }
  call_stays (the_write_back l) t o = stays_same _ b.state.holders
  call_stays (the_going w) t o = absurd (not_free w (passed (GoAway w) b t 6) (passed (GoAway w) b t 8))
  call_stays (the_coming w) t o = absurd (true≢false o)
  call_stays (the_taking w k) t o = absurd (not_free w (passed (TakeLock w k) b t 6) (passed (TakeLock w k) b t 8))
  call_stays (the_giving w k) t o = stays_same b.memory (given_back b.state.holders k)

-- ---- a step

-- What a taken step leaves: before the release the later acts, and the release drops the request.
data Stepped (b b' : Board) (later : List Act) : Type 0 where
  goes_on : Waits b' → b'.state.requested ≡ true → acts b' ≡ later → Stepped b b' later
  ends : b'.state.requested ≡ false → later ≡ [] → Stepped b b' later

-- What a taken step does: it performs the first act that is left, and writes what that act writes.
record StepDone (b b' : Board) : Type 0 where
  act : Act
  later : List Act
  first : acts b ≡ act ∷ later
  wrote : Wrote (writes act) b b'
  stepped : Stepped b b' later

step-done : (b : Board) → Waits b → Taken Step b → StepDone b (effect Step b)
unfolding perform_act perform_first
step-done b y t = by now.left refl
  where
    now : Stepping b
    now = step-ready b y.phase t

    -- an act that goes on to the next place
    going : {later : List Act} (act : Act) (memory cache : List ℕ) → acts b ≡ act ∷ later → perform_act act b.state b ≡ record { state = placed b.state (b.state.place + 1) b.state.undo; memory = memory; cache = cache } → Wrote (writes act) b (perform_act act b.state b) → StepDone b (effect Step b)
    going {later} act memory cache p q wrote =
        let e = effect-acts b y.phase p in
        record {
          act = act;
          later = later;
          first = p;
          wrote = subst (Wrote (writes act) b) (sym e) wrote;
          stepped = subst (λ (d : Board). Stepped b d later) (sym (e ∙ q)) (goes_on (record { phase = y.phase; workers = y.workers }) now.request (acts-next b memory cache now.request p));
        }

    by : {xs : List Act} → Remains b xs → acts b ≡ xs → StepDone b (effect Step b)
    by (line_next later low three) p = going _ _ _ p refl refl
    by epoch_next p = going store_epoch _ _ p refl refl
    by header_next p = going write_header _ _ p refl refl
    by release_next p =
        let e = effect-acts b y.phase p in
        record { act = release; later = []; first = p; wrote = ap (λ (d : Board). d.memory) e; stepped = subst (λ (d : Board). Stepped b d []) (sym e) (ends refl refl) }

-- ---- up to the release

-- The steps up to a release are as many as acts are left, and write what those write.
pub record Followed {n : ℕ} {b b' : Board} (calls : ToRelease n b b') : Type 0 where
  pub count : n ≡ length (acts b)
  pub written : StepsWrite calls (map writes (acts b))

-- Where a call leaves the acts, what follows it is what was left before it.
after-stay : {n : ℕ} {b d b' : Board} (rest : ToRelease n d b') → Stays b d → Followed rest → (n ≡ length (acts b)) × StepsWrite rest (map writes (acts b))
after-stay rest stay f = (f.count ∙ ap length stay.left, subst (λ (xs : List Act). StepsWrite rest (map writes xs)) stay.left f.written)

-- A board that is left as it was.
stays-there : (b d : Board) → Waits b → d ≡ b → Stays b d
stays-there b d y e = subst (Stays b) (sym e) (record { waits = y; left = refl })

pub follow : {n : ℕ} {b b' : Board} (calls : ToRelease n b b') → Waits b → Followed calls
unfolding StepsWrite
follow (releases {b = b} {b' = b'} p off) y =
    let (t, e) = performed-taken Step b p refl in
    let done = subst (StepDone b) (sym e) (step-done b y t) in
    by done done.stepped
  where
    by : (done : StepDone b b') → Stepped b b' done.later → Followed (releases p off)
    by done (goes_on w on left) = absurd (clash on off)
    by done (ends gone none) =
        let only : acts b ≡ done.act ∷ [] = done.first ∙ ap {B = List Act} (λ xs. done.act ∷ xs) none in
        record { count = sym (ap length only); written = subst (λ (xs : List Act). StepsWrite (releases p off) (map writes xs)) (sym only) done.wrote }
follow (steps {n = n} {b = b} {d = d} p on rest) y =
    let (t, e) = performed-taken Step b p refl in
    let done = subst (StepDone b) (sym e) (step-done b y t) in
    by done done.stepped (λ w. follow rest w)
  where
    by : (done : StepDone b d) → Stepped b d done.later → (Waits d → Followed rest) → Followed (steps p on rest)
    by done (ends gone none) further = absurd (clash on gone)
    by done (goes_on w up left) further =
        let f = further w in
        record {
          count = ap suc (f.count ∙ ap length left) ∙ sym (ap length done.first);
          written =
              subst (λ (xs : List Act). StepsWrite (steps p on rest) (map writes xs)) (sym done.first)
              (done.wrote, subst (λ (xs : List Act). StepsWrite rest (map writes xs)) left f.written);
        }
follow (between {number = number} k {b = b} {d = d} p a rest) y =
    let stay : Stays b d = elim (ℕ_discrete number 0) [
      | yes z ↦ let (t, e) = performed-taken k b p z in subst (Stays b) (sym e) (call_stays b y (by-effect k) t (a z))
      | no o ↦ stays-there b d y (performed-refused k b p o)
    ] in
    let both = after-stay rest stay (follow rest stay.waits) in
    record { count = both.0; written = both.1 }
follow (stays {b = b} {d = d} q rest) y =
    let stay = stays-there b d y (quiet-board q) in
    let both = after-stay rest stay (follow rest stay.waits) in
    record { count = both.0; written = both.1 }
