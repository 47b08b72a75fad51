-- Where each data update has its lock held and each restart point is of the worker's own cell, no two unfinished updates meet: cause 9 does not stand.
use Prim.Native.Nat.{ℕ, suc, ◌%◌, ◌≤◌, ◌<◌}
use mathlib.Core.Path.{◌≡◌, refl, sym, ap, ◌∙◌, subst}
use mathlib.Core.List.{List, [], ◌∷◌}
use mathlib.Core.Bool.{Bool, true, false, cond, not, ◌&&◌, false≢true}
use native.Mathlib.Omega.{arith}
use native.Mathlib.Decide.{dec_lt}
use lib.Dec.{ltb, eqb}
use borrow.Author.Tests.{leb-false, ltb-false, eqb-true, eqb-false}
use Rattle.locks.specs.Holders.{holds}
use Rattle.locks.proofs.Holders.{one-holder}
use Rattle.board.specs.declared.State.{State}
use Rattle.board.specs.declared.Condition.{Condition}
use Rattle.board.specs.declared.Condition.TheVariants.{Free, Waiting, Updating, Away}
use Rattle.board.specs.declared.Call.{Call}
use Rattle.board.specs.declared.Call.TheVariants.{FormatStart, RecoveryStart, Step, Update, RestartPoint, Advance, Request, WriteBack, GoAway, ComeBack, TakeLock, GiveBackLock}
use Rattle.board.specs.Board.{Board}
use Rattle.board.specs.State.{condition_of, updates, others_update, lock_of}
use Rattle.board.specs.Causes.{Cause, causes, first_standing, cause}
use Rattle.predicate.proofs.Bools.{decide, split, chosen, passed_over, or_left, and_right, and-if, not-off, not-of}
use Rattle.predicate.proofs.Passing.{under_none}
use Rattle.board.proofs.Laws.Taken.{Clear, stands_at, clear_at, ByEffect, quiet, the_format, the_recovery, the_step, the_update, the_restart, the_advance, the_request, the_write_back, the_going, the_coming, the_taking, the_giving, onward}
use Rattle.board.proofs.Locks.Held.{Holding, LockInv}

-- ---- no other worker has an unfinished update of the cell

-- An unfinished update of cell `c` that fits what its worker `u` holds is worker `w`'s, where `w` holds the data cell's lock or the cell is `w`'s restart cell.
meets : (s : State) (w c u : ℕ) → (s.workers ≤ c → holds s.holders w (c % 16) ≡ true) → (c < s.workers → c ≡ w) → (k : Condition) →
    Holding s.workers s.holders u k → updates (eqb c) k ≡ true → u ≡ w
meets s w c u own restart Free h e = absurd (false≢true e)
meets s w c u own restart Waiting h e = absurd (false≢true e)
meets s w c u own restart (Updating next d v) h e =
    let same : c ≡ d = eqb-true c d e in
    elim (dec_lt c s.workers) [
      | yes l ↦ let mine = restart l in let theirs = (h.1 (omega arith)).0 in omega arith
      | no l ↦
          let past : s.workers ≤ c = omega arith in
          one-holder s.holders u w (c % 16) (ap (λ (x : ℕ). holds s.holders u (x % 16)) same ∙ h.0 (omega arith)) (own past)
    ]
meets s w c u own restart Away h e = absurd (false≢true e)

-- So no other worker has one.
pub none_other : (s : State) (w c : ℕ) → LockInv s → (s.workers ≤ c → holds s.holders w (c % 16) ≡ true) → (c < s.workers → c ≡ w) →
    others_update s w c ≡ false
none_other s w c i own restart =
    under_none 8 (λ u. ltb u s.workers && not (eqb u w) && updates (eqb c) (condition_of s u))
    (λ u l.
    and-if (ltb u s.workers && not (eqb u w)) (updates (eqb c) (condition_of s u))
    (λ t. split (updates (eqb c) (condition_of s u))
    (λ e. absurd (eqb-false u w (not-of (eqb u w) (and_right (ltb u s.workers) (not (eqb u w)) t)) (meets s w c u own restart (condition_of s u) (i.holding u) e)))
    (λ e. e)))

-- ---- the answer

-- The rows of a table before the first of number `n`.
unfoldable pub until : ℕ → List Cause → List Cause
until n [] = []
until n (k ∷ ks) = cond (eqb k.number n) [] (k ∷ until n ks)

-- Where `n` is the answer, no row before the first of that number stands.
parted : (n : ℕ) (ks : List Cause) → first_standing ks ≡ suc n → Clear (until (suc n) ks) × (first_standing (onward (suc n) ks) ≡ suc n)
unfolding until onward first_standing Clear
parted n [] e = absurd (omega (arith, e))
parted n (k ∷ ks) e =
    decide (λ (t : Bool). Clear (cond t [] (k ∷ until (suc n) ks)) × (first_standing (cond t (k ∷ ks) (onward (suc n) ks)) ≡ suc n)) (eqb k.number (suc n))
    (λ t. (tt, e))
    (λ f.
    split k.stands
    (λ on. absurd (eqb-false k.number (suc n) f (sym (chosen k.stands k.number (first_standing ks) on) ∙ e)))
    (λ off. let rest = parted n ks (sym (passed_over k.stands k.number (first_standing ks) off) ∙ e) in ((off, rest.0), rest.1)))

-- A table whose last row fails its test gives no answer, and so does one without rows.
last_off : (k : Cause) (n : ℕ) → k.stands ≡ false → first_standing (k ∷ []) ≡ suc n → ⊥
unfolding first_standing
last_off k n off e = omega (arith, sym (passed_over k.stands k.number 0 off) ∙ e)

no_row : (n : ℕ) → first_standing [] ≡ suc n → ⊥
unfolding first_standing
no_row n e = omega (arith, e)

-- An update is not answered by 9: the lock that it must hold before is nobody else's.
update-answer : (w c v : ℕ) (b : Board) → LockInv b.state → cause (Update w c v) b ≡ 9 → ⊥
unfolding cause causes until onward stands_at
update-answer w c v b i e =
    let s = b.state in
    let rows = parted 8 (causes (Update w c v) b) e in
    let pass = clear_at (until 9 (causes (Update w c v) b)) rows.0 in
    let past = ltb-false c s.workers (or_left (ltb c s.workers) _ (pass 7)) in
    last_off _ 8 (none_other s w c i (λ l. not-off (holds s.holders w (lock_of c)) (pass 16)) (λ l. absurd (omega arith))) rows.1

-- Nor is a restart point: its cell is this worker's.
restart-answer : (w v : ℕ) (b : Board) → LockInv b.state → cause (RestartPoint w v) b ≡ 9 → ⊥
unfolding cause causes until onward stands_at
restart-answer w v b i e =
    let s = b.state in
    let rows = parted 8 (causes (RestartPoint w v) b) e in
    let there = leb-false s.workers w (clear_at (until 9 (causes (RestartPoint w v) b)) rows.0 6) in
    last_off _ 8 (none_other s w w i (λ l. absurd (omega arith)) (λ l. refl)) rows.1

-- No call is answered by 9; of most there is no such row.
pub never-nine : {k : Call} → ByEffect k → (b : Board) → LockInv b.state → cause k b ≡ 9 → ⊥
unfolding cause causes onward
never-nine {k} (quiet q) b i e = no_row 8 (subst (λ (ks : List Cause). first_standing ks ≡ 9) (q.nine b) (parted 8 (causes k b) e).1)
never-nine (the_format l w) b i e = no_row 8 (parted 8 (causes (FormatStart l w) b) e).1
never-nine the_recovery b i e = no_row 8 (parted 8 (causes RecoveryStart b) e).1
never-nine the_step b i e = no_row 8 (parted 8 (causes Step b) e).1
never-nine (the_update w c v) b i e = update-answer w c v b i e
never-nine (the_restart w v) b i e = restart-answer w v b i e
never-nine (the_advance w) b i e = no_row 8 (parted 8 (causes (Advance w) b) e).1
never-nine the_request b i e = no_row 8 (parted 8 (causes Request b) e).1
never-nine (the_write_back l) b i e = no_row 8 (parted 8 (causes (WriteBack l) b) e).1
never-nine (the_going w) b i e = no_row 8 (parted 8 (causes (GoAway w) b) e).1
never-nine (the_coming w) b i e = no_row 8 (parted 8 (causes (ComeBack w) b) e).1
never-nine (the_taking w k) b i e = no_row 8 (parted 8 (causes (TakeLock w k) b) e).1
never-nine (the_giving w k) b i e = no_row 8 (parted 8 (causes (GiveBackLock w k) b) e).1
