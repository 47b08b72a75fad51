-- Laws of a function changed at one place.
use Prim.Native.Nat.{ℕ}
use mathlib.Core.Path.{◌≡◌, refl, sym, subst}
use native.Mathlib.Decide.{ℕ_discrete}
use lib.Dec.{eqb}
use borrow.Author.Tests.{eq-eqb, ne_eqb}
use Rattle.board.specs.Machine.{changed}
use Rattle.predicate.proofs.Bools.{chosen, passed_over}

-- ---- a function changed at one place

-- At its place a changed function has the new value.
pub changed-at {ℓ} : {A : Type ℓ} (f : ℕ → A) (i : ℕ) (a : A) → changed f i a i ≡ a
unfolding changed
changed-at f i a = chosen (eqb i i) a (f i) (eq-eqb i i refl)

-- Elsewhere it has the old one.
pub changed-other {ℓ} : {A : Type ℓ} (f : ℕ → A) (i : ℕ) (a : A) (j : ℕ) → (i ≡ j → ⊥) → changed f i a j ≡ f j
unfolding changed
changed-other f i a j o = passed_over (eqb j i) a (f j) (ne_eqb j i (λ e. o (sym e)))

-- What holds at one number and at every other holds at each.
pub at_each {ℓ} : (P : ℕ → Type ℓ) (i : ℕ) → P i → ((j : ℕ) → (i ≡ j → ⊥) → P j) → (j : ℕ) → P j
at_each P i here other j =
    elim (ℕ_discrete i j) [
      | yes e ↦ subst P e here
      | no o ↦ other j o
    ]
