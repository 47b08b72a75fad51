-- The invariant: found is what the scan of the workers below i finds.
use Rattle.std.proofs.Common.{◌≡◌, ℕ, Bool}
use Rattle.predicate.specs.Passing.{any_under}
use Rattle.board.specs.declared.Condition.{Condition}
use Rattle.checks.proofs.Scan.{told_at}
use Rattle.checks.proofs.workers.any_worker.Given as goal

abbrev pub invariant-loop-i : goal.invariant-loop-i
invariant-loop-i g l =
    (told : ℕ → Condition → Bool) → ((i : ℕ) (k : Condition) (r : Bool) → goal.F-post g l.test i k r → r ≡ told i k) →
    l.found ≡ any_under l.i (told_at l.state told)
