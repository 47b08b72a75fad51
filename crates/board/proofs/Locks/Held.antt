-- Who holds a lock on a board that calls from a taken start led to: an invariant of the record alone.
use Prim.Native.Nat.{ℕ, ◌%◌, ◌≤◌, ◌<◌}
use mathlib.Core.Path.{◌≡◌, refl, sym, ap, subst, ◌∙◌}
use mathlib.Core.Bool.{true, false, ◌&&◌, false≢true}
use native.Mathlib.Omega.{arith}
use native.Mathlib.Decide.{dec_lt}
use lib.Dec.{leb, ltb, eqb}
use lib.ListN.{length, length-set}
use borrow.Author.Tests.{leb-false, ltb-false, ltb-true, le-leb, eq-eqb, eqb-true, eqb-false}
use Rattle.locks.specs.Holders.{holds, unheld, held_by, given_back}
use Rattle.locks.proofs.Holders.{any_none, one-holder, free-none, held-own, held-other, back-own, back-other}
use Rattle.board.specs.declared.State.{State}
use Rattle.board.specs.declared.Condition.{Condition}
use Rattle.board.specs.declared.Condition.TheVariants.{Free, Waiting, Updating, Away}
use Rattle.board.specs.declared.Store.{Store}
use Rattle.board.specs.declared.Store.TheVariants.{Backup, Mark, Record}
use Rattle.board.specs.declared.Call.{Call}
use Rattle.board.specs.declared.Call.TheVariants.{FormatStart, RecoveryStart, Update, RestartPoint, Advance, GoAway, ComeBack, TakeLock, GiveBackLock}
use Rattle.board.specs.Board.{Board, workers_of}
use Rattle.board.specs.State.{all_free, condition_of, conditioned, is_free, updates, updates_under, lock_of, after_release, released}
use Rattle.board.specs.Causes.{causes, bad_record}
use Rattle.board.specs.Effects.{first_store, after_last, advance, advance_of, effect}
use Rattle.board.specs.Next.{Taken, Kind, starts_format, starts_recovery, stepping, writing, counting, other, reading, kind, is_start}
use Rattle.board.specs.Locks.{FromStart, starts, performs, stays}
use Rattle.predicate.proofs.Bools.{on, split, clash, or_left, and_left, and_both, not-off}
use Rattle.board.proofs.Laws.Count.{at_each}
use Rattle.board.proofs.Laws.Taken.{stands_at, passed, of-kind, performed-taken, performed-refused, eight-within, ByEffect, quiet, the_format, the_recovery, the_step, the_update, the_restart, the_advance, the_request, the_write_back, the_going, the_coming, the_taking, the_giving, by-effect}
use Rattle.board.proofs.Laws.Quiet.{quiet-board}
use Rattle.board.proofs.Laws.Workers.{is_free_lem, condition-at, condition-other, busy-within, free-condition, released-condition}
use Rattle.board.proofs.Laws.Locks.{unheld-under, taken-under, given-back-under}
use Rattle.board.proofs.Invariant.{HeldUnder}
use Rattle.board.proofs.Locks.Record.{step-record}

-- ---- the invariant

-- Worker `w` holds none of the locks.
abbrev pub None : ℕ → ℕ → Type 0
None holders w = (k : ℕ) → k < 16 → holds holders w k ≡ false

-- What worker `w` holds, by its condition.
abbrev pub Holding : ℕ → ℕ → ℕ → Condition → Type 0
Holding workers holders w Free = Unit {0}
Holding workers holders w Waiting = None holders w
Holding workers holders w (Updating next c v) = (workers ≤ c → holds holders w (c % 16) ≡ true) × (c < workers → (c ≡ w) × None holders w)
Holding workers holders w Away = None holders w

-- The invariant of the record.
pub record LockInv (s : State) : Type 0 where
  -- there are eight workers
  pub eight : length s.worker ≡ 8
  -- a lock's holder is under W
  pub under : HeldUnder s
  -- what each worker holds
  pub holding : (w : ℕ) → Holding s.workers s.holders w (condition_of s w)

-- ---- one worker in another condition

-- A worker of the eight is put into a condition that fits what it holds.
put : (s : State) (w : ℕ) (k : Condition) → LockInv s → w < 8 → Holding s.workers s.holders w k → LockInv (conditioned s w k)
put s w k i h fits =
    record {
      eight = length-set s.worker w (record { condition = k }) ∙ i.eight;
      under = i.under;
      holding =
          at_each (λ (u : ℕ). Holding s.workers s.holders u (condition_of (conditioned s w k) u)) w
          (subst (Holding s.workers s.holders w) (sym (condition-at s w k (omega (arith, i.eight)))) fits)
          (λ u o. subst (Holding s.workers s.holders u) (sym (condition-other s w k u o)) (i.holding u));
    }

-- A free worker of the eight.
freed : (s : State) → s.worker ≡ all_free → HeldUnder s → LockInv s
freed s e held =
    record { eight = ap length e; under = held; holding = λ w. subst (Holding s.workers s.holders w) (sym (free-condition s w e)) tt }

-- ---- the release

-- A condition after the release.
after-holding : (workers holders w : ℕ) (k : Condition) → Holding workers holders w k → Holding workers holders w (after_release k)
after-holding workers holders w Free h = tt
after-holding workers holders w Waiting h = tt
after-holding workers holders w (Updating next c v) h = tt
after-holding workers holders w Away h = h

released-holding : (s : State) → LockInv s → LockInv (released s)
released-holding s i = record { eight = refl; under = i.under; holding = each }
  where
    each : (w : ℕ) → Holding s.workers s.holders w (condition_of (released s) w)
    each w =
        elim (dec_lt w 8) [
          | yes h ↦ subst (Holding s.workers s.holders w) (sym (released-condition s w h)) (after-holding s.workers s.holders w (condition_of s w) (i.holding w))
          | no h ↦
              split (is_free (condition_of (released s) w))
              (λ t. subst (Holding s.workers s.holders w) (sym (is_free_lem (condition_of (released s) w) t)) tt)
              (λ f. absurd (h (busy-within (released s) w f refl)))
        ]

-- ---- the locks

-- A worker's condition still fits where each lock that it held it holds, and each that it did not it does not.
refit : (workers holders holders' w : ℕ) (k : Condition) →
    ((c v : ℕ) (n : Store) → k ≡ Updating n c v → workers ≤ c → holds holders w (c % 16) ≡ true → holds holders' w (c % 16) ≡ true) →
    (None holders w → None holders' w) → Holding workers holders w k → Holding workers holders' w k
refit workers holders holders' w Free own none h = tt
refit workers holders holders' w Waiting own none h = none h
refit workers holders holders' w (Updating n c v) own none h = (λ l. own c v n refl l (h.0 l), λ l. ((h.1 l).0, none (h.1 l).1))
refit workers holders holders' w Away own none h = none h

-- A free lock is taken by a free worker: it was nobody's.
take-fits : (s : State) (w k u : ℕ) → w < 15 → unheld s.holders k ≡ true → (w ≡ u → ⊥) → Holding s.workers s.holders u (condition_of s u) →
    Holding s.workers (held_by s.holders k w) u (condition_of s u)
take-fits s w k u h free o =
    refit s.workers s.holders (held_by s.holders k w) u (condition_of s u)
    (λ c v n e l t.
    at_each (λ (j : ℕ). holds s.holders u j ≡ true → holds (held_by s.holders k w) u j ≡ true) k
    (λ p. absurd (clash p (free-none s.holders u k free)))
    (λ j q p. held-other s.holders k w u j h (λ e. q (sym e)) ∙ p) (c % 16) t)
    (λ none.
    at_each (λ (j : ℕ). j < 16 → holds (held_by s.holders k w) u j ≡ false) k
    (λ l. split (holds (held_by s.holders k w) u k) (λ p. absurd (o (one-holder (held_by s.holders k w) w u k (held-own s.holders k w h) p))) (λ p. p))
    (λ j q l. held-other s.holders k w u j h (λ e. q (sym e)) ∙ none j l))

-- A lock is given back by its holder, which has no unfinished update under it.
back_fits : (s : State) (w k u : ℕ) → holds s.holders w k ≡ true → updates_under s w k ≡ false →
    Holding s.workers s.holders u (condition_of s u) → Holding s.workers (given_back s.holders k) u (condition_of s u)
back_fits s w k u held idle =
    refit s.workers s.holders (given_back s.holders k) u (condition_of s u)
    (λ c v n e l t. back-other s.holders k u (c % 16) (λ q. not-here c v n e l t q) ∙ t)
    (λ none.
    at_each (λ (j : ℕ). j < 16 → holds (given_back s.holders k) u j ≡ false) k
    (λ l. back-own s.holders k u)
    (λ j q l. back-other s.holders k u j (λ e. q (sym e)) ∙ none j l))
  where
    not-here : (c v : ℕ) (n : Store) → condition_of s u ≡ Updating n c v → s.workers ≤ c → holds s.holders u (c % 16) ≡ true → c % 16 ≡ k → ⊥
    not-here c v n e l t q =
        let same : u ≡ w = one-holder s.holders u w k (subst (λ (j : ℕ). holds s.holders u j ≡ true) q t) held in
        let seen : updates_under s u k ≡ true = ap (updates (λ d. leb s.workers d && eqb (lock_of d) k)) e ∙ and_both (leb s.workers c) (eqb (lock_of c) k) (le-leb s.workers c l) (eq-eqb (c % 16) k q) in
        clash (subst (λ (x : ℕ). updates_under s x k ≡ true) same seen) idle

-- ---- every call

-- A worker under W is one of the eight.
within : (b : Board) (w : ℕ) → bad_record b.state ≡ false → leb b.state.workers w ≡ false → w < 8
within b w e h =
    omega (arith, eight-within b.state e, leb-false b.state.workers w h)

-- An advance of worker `w`, which is one of the eight.
advance-held : (n : Store) (w c v : ℕ) (b : Board) → LockInv b.state → w < 8 → Holding b.state.workers b.state.holders w (Updating n c v) →
    LockInv (advance n w c v b.state b).state
unfolding advance
advance-held Backup w c v b i h f = put b.state w (Updating Mark c v) i h f
advance-held Mark w c v b i h f =
    let p = put b.state w (Updating Record c v) i h f in record { eight = p.eight; under = p.under; holding = p.holding }
advance-held Record w c v b i h f =
    put b.state w (after_last b.state c) i h
    (on (Holding b.state.workers b.state.holders w) (ltb c b.state.workers && b.state.requested) Waiting Free
    (λ t. (f.1 (ltb-true c b.state.workers (and_left (ltb c b.state.workers) b.state.requested t))).1)
    (λ t. tt))

advances-held : (k : Condition) (w : ℕ) (b : Board) → LockInv b.state → w < 8 → Holding b.state.workers b.state.holders w k →
    LockInv (advance_of k w b.state b).state
unfolding advance_of
advances-held Free w b i h f = i
advances-held Waiting w b i h f = i
advances-held (Updating n c v) w b i h f = advance-held n w c v b i h f
advances-held Away w b i h f = i

-- A start frees all locks and all workers.
start-locks : (k : Call) (b : Board) → is_start (kind k) ≡ true → LockInv (effect k b).state
unfolding effect
start-locks k b e = go (kind k) refl e
  where
    go : (d : Kind) → kind k ≡ d → is_start d ≡ true → LockInv (effect k b).state
    go starts_format p q =
        let f = of-kind k starts_format p in
        subst (λ (x : Call). LockInv (effect x b).state) (sym f.2) (freed _ refl (unheld-under f.1))
    go starts_recovery p q = subst (λ (x : Call). LockInv (effect x b).state) (sym (of-kind k starts_recovery p)) (freed _ refl (unheld-under (workers_of b.memory)))
    go stepping p q = absurd (false≢true q)
    go writing p q = absurd (false≢true q)
    go counting p q = absurd (false≢true q)
    go other p q = absurd (false≢true q)
    go (reading c) p q = absurd (false≢true q)

-- Every taken call keeps it.
pub keeps-locks : {k : Call} → ByEffect k → (b : Board) → LockInv b.state → Taken k b → LockInv (effect k b).state
unfolding stands_at causes effect
keeps-locks (quiet q) b i t = subst (λ (d : Board). LockInv d.state) (sym (q.leaves b)) i
keeps-locks (the_format l w) b i t = start-locks (FormatStart l w) b refl
keeps-locks the_recovery b i t = start-locks RecoveryStart b refl
keeps-locks the_step b i t =
    step-record LockInv b i (λ place undo. record { eight = i.eight; under = i.under; holding = i.holding }) (λ dirty. freed _ refl i.under) (released-holding b.state i)
keeps-locks (the_update w c v) b i t =
    let s = b.state in
    let pass = passed (Update w c v) b t in
    let past = ltb-false c s.workers (or_left (ltb c s.workers) _ (pass 7)) in
    put s w (Updating (first_store b.cache c) c v) i (within b w (pass 3) (pass 6)) (λ l. not-off (holds s.holders w (lock_of c)) (pass 16), λ l. absurd (omega arith))
keeps-locks (the_restart w v) b i t =
    let s = b.state in
    let pass = passed (RestartPoint w v) b t in
    let there = leb-false s.workers w (pass 6) in
    put s w (Updating (first_store b.cache w) w v) i (within b w (pass 3) (pass 6)) (λ l. absurd (omega arith), λ l. (refl, any_none s.holders w (pass 16)))
keeps-locks (the_advance w) b i t =
    advances-held (condition_of b.state w) w b i (within b w (passed (Advance w) b t 3) (passed (Advance w) b t 6)) (i.holding w)
keeps-locks the_request b i t = record { eight = i.eight; under = i.under; holding = i.holding }
keeps-locks (the_write_back l) b i t = i
keeps-locks (the_going w) b i t =
    let pass = passed (GoAway w) b t in put b.state w Away i (within b w (pass 3) (pass 6)) (any_none b.state.holders w (pass 16))
keeps-locks (the_coming w) b i t =
    let pass = passed (ComeBack w) b t in put b.state w Free i (within b w (pass 3) (pass 6)) tt
keeps-locks (the_taking w k) b i t =
    let s = b.state in
    let pass = passed (TakeLock w k) b t in
    let most = eight-within s (pass 3) in
    let there = leb-false s.workers w (pass 6) in
    let free : condition_of s w ≡ Free = is_free_lem (condition_of s w) (not-off (is_free (condition_of s w)) (pass 8)) in
    record {
      eight = i.eight;
      under = taken-under s.holders s.workers k w most there i.under;
      holding =
          at_each (λ (u : ℕ). Holding s.workers (held_by s.holders k w) u (condition_of s u)) w
          (subst (Holding s.workers (held_by s.holders k w) w) (sym free) tt)
          (λ u o. take-fits s w k u (omega arith) (not-off (unheld s.holders k) (pass 16)) o (i.holding u));
    }
keeps-locks (the_giving w k) b i t =
    let s = b.state in
    let pass = passed (GiveBackLock w k) b t in
    record {
      eight = i.eight;
      under = given-back-under s.holders s.workers k i.under;
      holding = λ u. back_fits s w k u (not-off (holds s.holders w k) (pass 16)) (pass 8) (i.holding u);
    }

-- ---- from a taken start on

-- Every board that calls from a taken start led to has the invariant.
pub locks-inv : {b : Board} → FromStart b → LockInv b.state
locks-inv (starts k b e p) = subst (λ (d : Board). LockInv d.state) (sym (performed-taken k b p refl).1) (start-locks k b e)
locks-inv (performs k {number = number} {b = b} f p) =
    split (eqb number 0)
    (λ t. let done = performed-taken k b p (eqb-true number 0 t) in subst (λ (d : Board). LockInv d.state) (sym done.1) (keeps-locks (by-effect k) b (locks-inv f) done.0))
    (λ t. subst (λ (d : Board). LockInv d.state) (sym (performed-refused k b p (eqb-false number 0 t))) (locks-inv f))
locks-inv (stays f q) = subst (λ (d : Board). LockInv d.state) (sym (quiet-board q)) (locks-inv f)
