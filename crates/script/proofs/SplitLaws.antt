-- What is true of a line's fields as `split` gives them.
use Prim.Native.Nat.{ℕ, suc, ◌+◌, ◌<◌}
use mathlib.Core.Path.{◌≡◌, refl, sym, ap, subst, ◌∙◌}
use mathlib.Core.List.{List, [], ◌∷◌}
use mathlib.Core.Bool.{Bool, true, false, cond, not, ◌&&◌, ◌||◌}
use native.Mathlib.Omega.{arith}
use native.Mathlib.Numerals.{add-one}
use lib.Dec.{eqb}
use lib.ListN.{length, drop, get_or}
use lib.Seq.{drop-cons}
use borrow.Author.Tests.{ne_eqb, eqb-true}
use Rattle.std.proofs.Common.{Option, Some, None}
use Rattle.std.proofs.lemmas.Iterator.{YieldsList}
use Rattle.std.specs.List.{slice_split, list_any, list_all}
use Rattle.std.proofs.lemmas.List.Splits.{slice_split-cons_yes, slice_split-cons_no}
use Rattle.std.specs.Char.{is_ascii_digit}
use Rattle.predicate.proofs.Bools.{split, chosen, passed_over, and_left, not-off}
use Rattle.text.specs.Ascii.{tab}
use Rattle.text.specs.Numbers.{all_digits}
use Rattle.script.specs.Grammar.{fields, joined}
use Rattle.script.specs.declared.Program.{Program}
use Rattle.script.specs.Fields.{first, later, lone_letter}
use Rattle.script.specs.Reasons.{stands_in, letters, unlettered}
use Rattle.script.proofs.FieldLaws.{fields-parts, first-single}

-- The fields are what stands before, between and after the tabs.
pub fields-split : (s : List ℕ) → slice_split (λ b. eqb b tab) s ≡ fields s
unfolding fields
fields-split [] = refl
fields-split (b ∷ bs) =
    split (eqb b tab)
    (λ t. slice_split-cons_yes (λ x. eqb x tab) b bs t ∙ ap (λ (fs : List (List ℕ)). [] ∷ fs) (fields-split bs)
    ∙ sym (chosen (eqb b tab) ([] ∷ fields bs) (joined b (fields bs)) t))
    (λ t. slice_split-cons_no (λ x. eqb x tab) b bs t ∙ ap (joined b) (fields-split bs)
    ∙ sym (passed_over (eqb b tab) ([] ∷ fields bs) (joined b (fields bs)) t))

-- An iterator that gives all parts but the first gives the fields behind the first.
pub yields-fields : {S A : Type 0} {steps : S → Option A → S → Type 0} {v : A → List ℕ} {s : S} (line : List ℕ) →
    YieldsList steps v s (drop 1 (slice_split (λ b. eqb b tab) line)) → YieldsList steps v s (drop 1 (fields line))
yields-fields {S} {A} {steps} {v} {s} line y = subst (λ (fs : List (List ℕ)). YieldsList steps v s (drop 1 fs)) (fields-split line) y

-- The field that comes next stands before those left after it.
pub next-field : (fs : List (List ℕ)) (n : ℕ) (f : List ℕ) → (n < length fs) × (f ≡ get_or fs n f) → drop n fs ≡ f ∷ drop (n + 1) fs
next-field fs n f h =
    drop-cons fs n f h.0 ∙ ap (λ (x : List ℕ). x ∷ drop (suc n) fs) (sym h.1) ∙ ap (λ (k : ℕ). f ∷ drop k fs) (sym (add-one n))

-- ---- the letter

-- A list of fields whose first is one byte.
single : (f : List ℕ) (fs : List (List ℕ)) (x : ℕ) → lone_letter (f ∷ fs) ≡ Some x → f ≡ x ∷ []
unfolding lone_letter
single [] fs x e = absurd (cc)
single (b ∷ []) fs x e = cc
single (b ∷ d ∷ bs) fs x e = absurd (cc)

unsingle : (f : List ℕ) (fs : List (List ℕ)) → lone_letter (f ∷ fs) ≡ None → eqb (length f) 1 ≡ false
unfolding lone_letter
unsingle [] fs e = refl
unsingle (b ∷ []) fs e = absurd (cc)
unsingle (b ∷ d ∷ bs) fs e = ne_eqb (length (b ∷ d ∷ bs)) 1 (λ q. omega arith)

-- A line that begins with a letter.
pub lettered_some : (program : Program) (s : List ℕ) (x : ℕ) → lone_letter (fields s) ≡ Some x → unlettered program s ≡ not (stands_in x (letters program))
unfolding unlettered
lettered_some program s x e =
    let alone : first s ≡ x ∷ [] = single (first s) _ x (ap lone_letter (sym (fields-parts s)) ∙ e) in
    let byte : get_or s 0 0 ∷ [] ≡ x ∷ [] = sym (first-single s (ap length alone)) ∙ alone in
    ap (λ (f : List ℕ). not (eqb (length f) 1 && stands_in (get_or s 0 0) (letters program))) alone
    ∙ ap (λ (f : List ℕ). not (stands_in (get_or f 0 0) (letters program))) byte

pub lettered_none : (program : Program) (s : List ℕ) → lone_letter (fields s) ≡ None → unlettered program s ≡ true
unfolding unlettered
lettered_none program s e =
    ap (λ (t : Bool). not (t && stands_in (get_or s 0 0) (letters program))) (unsingle (first s) _ (ap lone_letter (sym (fields-parts s)) ∙ e))

-- Behind a letter are the fields from its end on.
pub fields_behind : (program : Program) (s : List ℕ) → unlettered program s ≡ false → drop 1 (fields s) ≡ later (drop 1 s)
unfolding unlettered
fields_behind program s e =
    let t = and_left (eqb (length (first s)) 1) (stands_in (get_or s 0 0) (letters program)) (not-off _ e) in
    ap (λ (fs : List (List ℕ)). drop 1 fs) (fields-parts s) ∙ ap (λ (k : ℕ). later (drop k s)) (eqb-true (length (first s)) 1 t)

-- ---- bytes

-- A byte is one of a list.
pub stands_any : (byte : ℕ) (l : List ℕ) → list_any (λ y. eqb y byte) l ≡ stands_in byte l
unfolding stands_in
stands_any byte [] = refl
stands_any byte (b ∷ bs) = by-test (eqb b byte) (stands_any byte bs)
  where
    by-test : (t : Bool) → list_any (λ y. eqb y byte) bs ≡ stands_in byte bs → t || list_any (λ y. eqb y byte) bs ≡ cond t true (stands_in byte bs)
    by-test true e = refl
    by-test false e = e

pub digits_all : (l : List ℕ) → list_all is_ascii_digit l ≡ all_digits l
unfolding all_digits
digits_all [] = refl
digits_all (b ∷ bs) = cc (digits_all bs)
