-- Steps taken one after the other, with other calls between them or none.
use Prim.Native.Nat.{ℕ, zero, suc}
use mathlib.Core.Path.{◌≡◌, refl}
use native.Mathlib.Omega.{arith}
use Rattle.board.specs.declared.Call.TheVariants.{Step}
use Rattle.board.specs.Board.{Board}
use Rattle.board.specs.Next.{next}
use Rattle.board.specs.Sequence.{Takes, finished, steps, between, stays}
use Rattle.board.specs.Statements.{steps_from, AllTaken}
use Rattle.board.proofs.Laws.Taken.{performing}

-- No more steps to take: the board is the last.
pub takes_none : {n : ℕ} {b b' : Board} → Takes n b b' → n ≡ 0 → b ≡ b'
takes_none finished e = refl
takes_none (steps p rest) e = absurd (omega arith)
takes_none (between k p o rest) e = absurd (omega arith)
takes_none (stays q rest) e = absurd (omega arith)

-- Undisturbed steps that are all taken are one way to take them.
pub all-takes : (n : ℕ) (b : Board) → AllTaken n b → Takes n b (steps_from n b)
unfolding AllTaken steps_from
all-takes zero b a = finished
all-takes (suc n) b a = steps (performing Step b a.0 refl refl) (all-takes n (next Step b) a.1)
