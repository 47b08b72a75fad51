-- Laws of the locks' holders: none past W.
use Prim.Native.Nat.{ℕ, ◌≤◌, ◌<◌}
use mathlib.Core.Path.{◌≡◌, sym, ◌∙◌}
use mathlib.Core.Bool.{true, false}
use native.Mathlib.Omega.{arith}
use Rattle.locks.specs.Holders.{holds, held_from, held_by, given_back}
use Rattle.locks.proofs.Holders.{none-held, held-own, held-other, back-own, back-other, one-holder, from-under, under-from}
use Rattle.predicate.proofs.Bools.{clash}
use Rattle.board.proofs.Laws.Count.{at_each}

-- Where nobody holds a lock, no holder is past W.
pub unheld-under : (w : ℕ) → held_from 0 w ≡ false
unheld-under w = under-from 0 w (λ v k l h. absurd (clash h (none-held v k)))

-- A lock taken by a worker under W.
pub taken-under : (h w k v : ℕ) → w ≤ 8 → v < w → held_from h w ≡ false → held_from (held_by h k v) w ≡ false
taken-under h w k v most under e =
    under-from (held_by h k v) w
    (λ u j l.
    at_each (λ (i : ℕ). i < 16 → holds (held_by h k v) u i ≡ true → u < w) k
    (λ m t. let same = one-holder (held_by h k v) u v k t (held-own h k v (omega arith)) in omega (arith, same))
    (λ i o m t. from-under h w e u i m (sym (held-other h k v u i (omega arith) (λ q. o (sym q))) ∙ t)) j l)

-- A lock given back.
pub given-back-under : (h w k : ℕ) → held_from h w ≡ false → held_from (given_back h k) w ≡ false
given-back-under h w k e =
    under-from (given_back h k) w
    (λ u j l.
    at_each (λ (i : ℕ). i < 16 → holds (given_back h k) u i ≡ true → u < w) k
    (λ m t. absurd (clash t (back-own h k u)))
    (λ i o m t. from-under h w e u i m (sym (back-other h k u i (λ q. o (sym q))) ∙ t)) j l)
