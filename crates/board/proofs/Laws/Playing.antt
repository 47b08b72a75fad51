-- Calls played one after the other on a board whose words are known: they are a history, and a computed test says which steps were taken.
use Prim.Native.Nat.{ℕ, zero, suc}
use mathlib.Core.Path.{◌≡◌, refl, sym, ap, subst, ◌∙◌}
use mathlib.Core.List.{List, [], ◌∷◌}
use mathlib.Core.Bool.{Bool, true, false, cond, not, ◌&&◌, ◌||◌, false≢true}
use lib.Dec.{eqb}
use borrow.Author.Tests.{eqb-true, eqb-false}
use Rattle.board.specs.declared.Call.{Call}
use Rattle.board.specs.declared.Call.TheVariants.{RecoveryStart, Step}
use Rattle.board.specs.Board.{Board}
use Rattle.board.specs.Causes.{cause}
use Rattle.board.specs.Next.{Taken, taken, next, Kind, starts_format, starts_recovery, stepping, writing, counting, other, reading, kind, is_start, is_step, value_of, Performed}
use Rattle.board.specs.Sequence.{Takes, finished, steps, between, Run, taken_call, unfed, called, Happens, performs, History, further, recovery_steps}
use Rattle.board.specs.Statements.{Recovered}
use Rattle.board.specs.Bench.{after_calls}
use Rattle.predicate.proofs.Bools.{on, split, chosen, passed_over, and-off, and_left, and_right}
use Rattle.board.proofs.Laws.Taken.{of-kind, performing}

-- ---- calls are a history

-- The run after a call.
unfoldable pub made : Call → Run → Run
made k r = called k (cause k r.board) (next k r.board) r

-- The run after one call after the other.
unfoldable pub made_all : List Call → Run → Run
made_all [] r = r
made_all (k ∷ ks) r = made_all ks (made k r)

-- A call is no cut.
pub stays_up : (k : Call) (r : Run) → r.crashed ≡ false → (made k r).crashed ≡ false
unfolding made
stays_up k r d =
    on (λ (x : Run). x.crashed ≡ false) (eqb (cause k r.board) 0) (taken_call k (next k r.board) r) (unfed (next k r.board) r) (λ t. and-off r.crashed (not (is_start (kind k))) d) (λ t. d)

-- What everything that happens carries on, calls alone carry on.
pub calls-carry : (P : Run → Type 0) → ((q q' : Run) → P q → Happens q q' → P q') → (ks : List Call) (r : Run) → r.crashed ≡ false → P r → P (made_all ks r)
unfolding made made_all
calls-carry P carry [] r d h = h
calls-carry P carry (k ∷ ks) r d h =
    calls-carry P carry ks (made k r) (stays_up k r d)
    (carry r (made k r) h (performs k (cause k r.board) (value_of k r.board) (next k r.board) refl (λ c z. absurd (false≢true (sym d ∙ c)))))

-- So they carry a history on.
pub calls-history : (ks : List Call) (r : Run) → r.crashed ≡ false → History r → History (made_all ks r)
calls-history = calls-carry History (λ q q' h e. further h e)

-- ---- taken steps, by a computed test

-- A choice by a taken call's kind.
unfoldable pub by_kind : Kind → Bool → Bool → Bool
by_kind starts_format more same = false
by_kind starts_recovery more same = false
by_kind stepping more same = more
by_kind writing more same = same
by_kind counting more same = same
by_kind other more same = same
by_kind (reading c) more same = same

-- The calls from a board on hold `n` taken steps, the last call being the last of them, and no taken start.
unfoldable pub takes_test : ℕ → List Call → Board → Bool
takes_test zero [] b = true
takes_test zero (k ∷ ks) b = false
takes_test (suc n) [] b = false
takes_test (suc n) (k ∷ ks) b =
    let more = takes_test n ks (next k b) in
    let same = takes_test (suc n) ks (next k b) in
    cond (taken k b) (by_kind (kind k) more same) same

-- What the test says of a taken call.
taken-test : {n : ℕ} {b' : Board} (b : Board) (more same : Bool) (k : Call) (d : Kind) → kind k ≡ d → Taken k b →
    (more ≡ true → Takes n (next k b) b') → (same ≡ true → Takes (suc n) (next k b) b') → by_kind d more same ≡ true → Takes (suc n) b b'
unfolding by_kind
taken-test b more same k starts_format e t f g h = absurd (false≢true h)
taken-test b more same k starts_recovery e t f g h = absurd (false≢true h)
taken-test {n} {b'} b more same k stepping e t f g h =
    subst (λ (j : Call). Taken j b → Takes n (next j b) b' → Takes (suc n) b b') (sym (of-kind k stepping e)) (λ s rest. steps (performing Step b s refl refl) rest) t (f h)
taken-test b more same k writing e t f g h = between k (performing k b t refl refl) (λ z. ap (λ (x : Kind). is_start x || is_step x) e) (g h)
taken-test b more same k counting e t f g h = between k (performing k b t refl refl) (λ z. ap (λ (x : Kind). is_start x || is_step x) e) (g h)
taken-test b more same k other e t f g h = between k (performing k b t refl refl) (λ z. ap (λ (x : Kind). is_start x || is_step x) e) (g h)
taken-test b more same k (reading c) e t f g h = between k (performing k b t refl refl) (λ z. ap (λ (x : Kind). is_start x || is_step x) e) (g h)

-- The test says that the steps are taken.
pub tested : (n : ℕ) (ks : List Call) (b : Board) → takes_test n ks b ≡ true → Takes n b (after_calls ks b)
unfolding takes_test after_calls
tested zero [] b e = finished
tested zero (k ∷ ks) b e = absurd (false≢true e)
tested (suc n) [] b e = absurd (false≢true e)
tested (suc n) (k ∷ ks) b e =
    let more = takes_test n ks (next k b) in
    let same = takes_test (suc n) ks (next k b) in
    split (taken k b)
    (λ t. taken-test b more same k (kind k) refl (eqb-true (cause k b) 0 t) (tested n ks (next k b)) (tested (suc n) ks (next k b))
    (sym (chosen (taken k b) (by_kind (kind k) more same) same t) ∙ e))
    (λ t. between k (refused-call k b) (λ z. absurd (eqb-false (cause k b) 0 t z)) (tested (suc n) ks (next k b)
    (sym (passed_over (taken k b) (by_kind (kind k) more same) same t) ∙ e)))
  where
    refused-call : (k : Call) (b : Board) → Performed k b (cause k b) (value_of k b) (next k b)
    refused-call k b = refl

-- ---- a finished recovery

-- The recovery that is played is finished.
pub played-recovered : (r : Run) (ks : List Call) (n : ℕ) → taken RecoveryStart r.board && takes_test n ks (next RecoveryStart r.board) ≡ true →
    recovery_steps r.board.memory ≡ n → Recovered r (after_calls ks (next RecoveryStart r.board))
played-recovered r ks n test count =
    let b = r.board in
    let start = next RecoveryStart b in
    let t = taken RecoveryStart b in
    let u = takes_test n ks start in
    record {
      value = value_of RecoveryStart b;
      start = start;
      begun = performing RecoveryStart b (eqb-true (cause RecoveryStart b) 0 (and_left t u test)) refl refl;
      ended = subst (λ (k : ℕ). Takes k start (after_calls ks start)) (sym count) (tested n ks start (and_right t u test));
    }
