-- Laws of tests that code writes in another way than the definitions.
use Prim.Native.Nat.{ℕ, ◌+◌}
use mathlib.Core.Path.{◌≡◌}
use mathlib.Core.Bool.{Bool, ◌||◌}
use native.Mathlib.Numerals.{add-one}
use Rattle.predicate.specs.Passing.{any_under}

-- One more number under the bound.
pub under_more : (n : ℕ) (test : ℕ → Bool) → any_under (n + 1) test ≡ any_under n test || test n
unfolding any_under
under_more n test = rw add-one
