-- What is true of a line's fields, on what is left of the line from a place on.
use Prim.Native.Nat.{ℕ, suc}
use mathlib.Core.Path.{◌≡◌, refl, ap}
use mathlib.Core.List.{List, [], ◌∷◌}
use mathlib.Core.Bool.{Bool, true, false, cond}
use native.Mathlib.Omega.{arith}
use lib.Dec.{eqb}
use lib.ListN.{length, drop, get_or}
use Rattle.text.specs.Ascii.{tab}
use Rattle.script.specs.Grammar.{joined, fields}
use Rattle.script.specs.Fields.{first, later}

-- The fields are the first one and those after it.
pub fields-parts : (s : List ℕ) → fields s ≡ first s ∷ later (drop (length (first s)) s)
unfolding fields first later
fields-parts [] = refl
fields-parts (b ∷ bs) = by-test (eqb b tab) (fields-parts bs)
  where
    by-test : (t : Bool) → fields bs ≡ first bs ∷ later (drop (length (first bs)) bs) →
        cond t ([] ∷ fields bs) (joined b (fields bs)) ≡ cond t [] (b ∷ first bs) ∷ later (drop (length (cond t [] (b ∷ first bs))) (b ∷ bs))
    by-test true e = refl
    by-test false e = ap (joined b) e

-- A first field of one byte is the line's first byte.
pub first-single : (s : List ℕ) → length (first s) ≡ 1 → first s ≡ get_or s 0 0 ∷ []
unfolding first
first-single [] e = absurd (omega arith)
first-single (b ∷ bs) e = by-test (eqb b tab) e
  where
    single : (l : List ℕ) → suc (length l) ≡ 1 → b ∷ l ≡ b ∷ []
    single [] e = refl
    single (x ∷ xs) e = absurd (omega arith)

    by-test : (t : Bool) → length (cond t [] (b ∷ first bs)) ≡ 1 → cond t [] (b ∷ first bs) ≡ b ∷ []
    by-test true e = absurd (omega arith)
    by-test false e = single (first bs) e
