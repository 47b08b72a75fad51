-- The letters of a program are just those that ask for something.
use Prim.Native.Nat.{ℕ}
use mathlib.Core.Path.{◌≡◌, refl, sym, ◌∙◌}
use mathlib.Core.List.{List, [], ◌∷◌, ◌++◌}
use mathlib.Core.Bool.{Bool, true, false, cond, true≢false}
use lib.Dec.{eqb}
use borrow.Author.Tests.{eqb-false, ne_eqb}
use Rattle.script.specs.declared.Line.{Line}
use Rattle.script.specs.declared.Line.TheVariants.{Unknown}
use Rattle.script.specs.declared.Program.TheVariants.{Drill, Fault, Page, Hex}
use Rattle.script.specs.Grammar.{drilled, damaging}
use Rattle.script.specs.Reasons.{stands_in, drill_letters, fault_letters, Unlisted, Listed}

-- A letter is none of a list, and then a fact.
abbrev Others : ℕ → List ℕ → Type 0 → Type 0
Others letter [] P = P
Others letter (b ∷ bs) P = (eqb letter b ≡ false) × Others letter bs P

-- A letter that is in neither of two lists is none of the first.
others : (letter : ℕ) (bs more : List ℕ) → stands_in letter (bs ++ more) ≡ false → Others letter bs (stands_in letter more ≡ false)
unfolding stands_in
others letter [] more e = e
others letter (b ∷ bs) more e = by-test (eqb b letter) e (λ q. eqb-false b letter q) (λ f. others letter bs more f)
  where
    by-test : (t : Bool) → cond t true (stands_in letter (bs ++ more)) ≡ false → (t ≡ false → b ≡ letter → ⊥) →
        (stands_in letter (bs ++ more) ≡ false → Others letter bs (stands_in letter more ≡ false)) → Others letter (b ∷ bs) (stands_in letter more ≡ false)
    by-test true e differs again = absurd (true≢false e)
    by-test false e differs again = (ne_eqb letter b (λ q. differs refl (sym q)), again e)

-- It asks for what any other letter does.
undrilled : (letter : ℕ) (numbers : List ℕ) (other : Line) (P : Type 0) → Others letter drill_letters P → drilled letter numbers other ≡ other
unfolding drilled
undrilled letter [] other P o = simp (o.1.1.1.1.0, o.1.1.1.1.1.0, o.1.1.1.1.1.1.1.1.0, o.1.1.1.1.1.1.1.1.1.0)
undrilled letter (a ∷ []) other P o = simp (o.1.1.0, o.1.1.1.1.1.1.0, o.1.1.1.1.1.1.1.0)
undrilled letter (a ∷ b ∷ []) other P o = simp (o.0, o.1.1.1.0, o.1.1.1.1.1.1.1.1.1.1.0, o.1.1.1.1.1.1.1.1.1.1.1.0)
undrilled letter (a ∷ b ∷ c ∷ []) other P o = simp o.1.0
undrilled letter (a ∷ b ∷ c ∷ d ∷ ns) other P o = refl

-- In the fault program for nothing.
undamaging : (letter : ℕ) (numbers : List ℕ) (P : Type 0) → Others letter fault_letters P → damaging letter numbers ≡ Unknown
unfolding damaging
undamaging letter [] P o = simp (o.1.1.1.1.1.1.1.1.0, o.1.1.1.1.1.1.1.1.1.1.1.1.0)
undamaging letter (a ∷ []) P o = simp (o.1.1.1.1.1.1.1.1.1.0, o.1.1.1.1.1.1.1.1.1.1.0, o.1.1.1.1.1.1.1.1.1.1.1.0, o.1.1.1.1.1.1.1.1.1.1.1.1.1.0, o.1.1.1.1.1.1.1.1.1.1.1.1.1.1.1.0)
undamaging letter (a ∷ b ∷ []) P o = simp (o.0, o.1.0, o.1.1.0, o.1.1.1.0, o.1.1.1.1.0, o.1.1.1.1.1.0, o.1.1.1.1.1.1.1.0, o.1.1.1.1.1.1.1.1.1.1.1.1.1.1.0)
undamaging letter (a ∷ b ∷ c ∷ []) P o = refl
undamaging letter (a ∷ b ∷ c ∷ d ∷ []) P o = refl
undamaging letter (a ∷ b ∷ c ∷ d ∷ e ∷ []) P o = simp o.1.1.1.1.1.1.0
undamaging letter (a ∷ b ∷ c ∷ d ∷ e ∷ f ∷ ns) P o = refl

pub unlisted : Unlisted
unlisted Drill letter numbers e = undrilled letter numbers Unknown _ (others letter drill_letters [] e)
unlisted Page letter numbers e = undrilled letter numbers Unknown _ (others letter drill_letters [] e)
unlisted Hex letter numbers e = undrilled letter numbers Unknown _ (others letter drill_letters [] e)
unlisted Fault letter numbers e =
    let o = others letter drill_letters fault_letters e in
    undrilled letter numbers (damaging letter numbers) _ o ∙ undamaging letter numbers _ (others letter fault_letters [] o.1.1.1.1.1.1.1.1.1.1.1.1)

pub listed : Listed
unfolding drilled damaging
listed Drill = refl
listed Fault = refl
listed Page = refl
listed Hex = refl
