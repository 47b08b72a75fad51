-- Taking a lock and giving it back keep the invariant: they change nothing but the holders.
use Prim.Native.Nat.{ℕ}
use mathlib.Core.Path.{◌≡◌}
use mathlib.Core.Bool.{false}
use borrow.Author.Tests.{leb-false}
use Rattle.board.specs.declared.Call.TheVariants.{TakeLock, GiveBackLock}
use Rattle.board.specs.Causes.{causes}
use Rattle.board.specs.Effects.{effect}
use Rattle.board.specs.Next.{Taken}
use Rattle.board.specs.Machine.{feed}
use Rattle.board.specs.Sequence.{Run}
use Rattle.locks.specs.Holders.{held_by, given_back}
use Rattle.board.proofs.Invariant.{Inv}
use Rattle.board.proofs.Laws.Taken.{stands_at, passed, after_taken, eight-within}
use Rattle.board.proofs.Laws.Locks.{taken-under, given-back-under}
use Rattle.board.proofs.Checkpoint.Run.{Preserved}
use Rattle.board.proofs.Keeps.Quiet.{carried-holders}

-- A taken lock: its new holder is under W.
pub carried-take-lock : (r : Run) (w k : ℕ) → Inv r → r.crashed ≡ false → Taken (TakeLock w k) r.board → Preserved false r (after_taken (TakeLock w k) r)
unfolding stands_at causes effect feed
carried-take-lock r w k inv d t =
    let s = r.board.state in
    let pass = passed (TakeLock w k) r.board t in
    carried-holders r (held_by s.holders k w) _ inv d (pass 2) (taken-under s.holders s.workers k w (eight-within s (pass 3)) (leb-false s.workers w (pass 6)))

-- A lock given back.
pub carried-give-back-lock : (r : Run) (w k : ℕ) → Inv r → r.crashed ≡ false → Taken (GiveBackLock w k) r.board →
    Preserved false r (after_taken (GiveBackLock w k) r)
unfolding stands_at causes effect feed
carried-give-back-lock r w k inv d t =
    let s = r.board.state in
    carried-holders r (given_back s.holders k) _ inv d (passed (GiveBackLock w k) r.board t 2) (given-back-under s.holders s.workers k)
