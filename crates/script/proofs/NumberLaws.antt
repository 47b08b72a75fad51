-- What is true of decimal numbers, and of the numbers read one after the other.
use Prim.Native.Nat.{ℕ, suc, ◌+◌, ◌*◌, ◌-◌, ◌^◌, ◌≤◌, ◌<◌}
use mathlib.Core.Path.{◌≡◌, refl, sym, ap, ◌∙◌}
use mathlib.Core.List.{List, [], ◌∷◌, ◌++◌, map}
use mathlib.Core.Bool.{Bool, true, false, cond, ◌&&◌}
use native.Mathlib.Omega.{arith}
use native.Mathlib.Numerals.{add-one}
use native.Mathlib.Nat.{zero-add}
use lib.Dec.{leb, ltb}
use lib.ListN.{length, take, drop, get_or, drop_of_length-le}
use lib.Seq.{drop-cons, length-take-le, take_all}
use Rattle.std.proofs.Common.{append_assoc, length-append, append-nil, Option, Some, None}
use Rattle.std.proofs.lemmas.List.{length-map}
use Rattle.std.specs.Option.{is_some}
use borrow.Author.Tests.{ltb-true, ltb-false, lt-ltb, le-leb, lt-leb, leb-true, leb-false}
use Rattle.predicate.proofs.Bools.{split, chosen, passed_over, and_left, and_right, and-off-right, and_both}
use Rattle.script.specs.declared.Line.TheVariants.{Unknown}
use Rattle.script.specs.declared.Program.{Program}
use Rattle.script.specs.declared.Program.TheVariants.{Drill, Fault, Page, Hex}
use Rattle.text.specs.Ascii.{'0', '9'}
use Rattle.text.specs.Numbers.{all_digits, value_after, value}
use Rattle.script.specs.Grammar.{is_number, all_numbers, drilled, damaging, command, fields, formed, meaning}
use Rattle.script.specs.Fields.{number_of, numbers_of, lone_letter}

-- ---- one number

-- What is left of a field, read after the digits that write `n`.
unfoldable pub number_from : ℕ → List ℕ → Option ℕ
number_from n f = cond (all_digits f && leb (value_after n f) (2 ^ 64 - 1)) (Some (value_after n f)) None

-- Further digits make a number no smaller.
value_grows : (n : ℕ) (f : List ℕ) → n ≤ value_after n f
unfolding value_after
value_grows n [] = omega arith
value_grows n (b ∷ bs) = omega (arith, value_grows (10 * n + (b - '0')) bs)

-- A field of one byte or more is read from 0.
pub number-starts : (f : List ℕ) → 0 < length f → number_of f ≡ number_from 0 f
unfolding number_of number_from is_number
number-starts f h =
    ap (λ (t : Bool). cond (t && (all_digits f && leb (value f) (2 ^ 64 - 1))) (Some (value f)) None) (lt-ltb 0 (length f) h)

pub number-empty : (f : List ℕ) → length f ≡ 0 → number_of f ≡ None
unfolding number_of is_number
number-empty [] e = refl
number-empty (b ∷ bs) e = absurd (omega arith)

pub number-ends : (n : ℕ) (f : List ℕ) (i : ℕ) → length f ≤ i → n ≤ 2 ^ 64 - 1 → number_from n (drop i f) ≡ Some n
unfolding number_from all_digits value_after
number-ends n f i h b =
    ap (number_from n) (drop_of_length-le f h)
    ∙ chosen (leb n (2 ^ 64 - 1)) (Some n) None (le-leb n (2 ^ 64 - 1) b)

-- A digit.
pub number-goes-on : (n : ℕ) (f : List ℕ) (i : ℕ) → i < length f → '0' ≤ get_or f i 0 → get_or f i 0 ≤ '9' →
    number_from n (drop i f) ≡ number_from (10 * n + (get_or f i 0 - '0')) (drop (i + 1) f)
unfolding number_from all_digits value_after
number-goes-on n f i h low high =
    let b = get_or f i 0 in
    let rest = drop (suc i) f in
    let v = value_after (10 * n + (b - '0')) rest in
    ap (number_from n) (drop-cons f i 0 h)
    ∙ ap (λ (t : Bool). cond ((t && all_digits rest) && leb v (2 ^ 64 - 1)) (Some v) None)
    (and_both (leb '0' b) (leb b '9') (le-leb '0' b low) (le-leb b '9' high))
    ∙ ap (λ (k : ℕ). number_from (10 * n + (b - '0')) (drop k f)) (sym (add-one i))

-- A byte that is no digit.
pub number-breaks : (n : ℕ) (f : List ℕ) (i : ℕ) → i < length f → leb '0' (get_or f i 0) && leb (get_or f i 0) '9' ≡ false → number_from n (drop i f) ≡ None
unfolding number_from all_digits value_after
number-breaks n f i h e =
    let b = get_or f i 0 in
    let rest = drop (suc i) f in
    let v = value_after (10 * n + (b - '0')) rest in
    ap (number_from n) (drop-cons f i 0 h)
    ∙ ap (λ (t : Bool). cond ((t && all_digits rest) && leb v (2 ^ 64 - 1)) (Some v) None) e

-- A number past 2^64 − 1 stays past it.
pub number_past : (n : ℕ) (f : List ℕ) → 2 ^ 64 - 1 < n → number_from n f ≡ None
unfolding number_from
number_past n f h =
    passed_over (all_digits f && leb (value_after n f) (2 ^ 64 - 1)) (Some (value_after n f)) None
    (and-off-right (all_digits f) (leb (value_after n f) (2 ^ 64 - 1)) (lt-leb (value_after n f) (2 ^ 64 - 1) (omega (arith, value_grows n f))))

-- A number above a tenth of 2^64 has no further digit.
pub number-over : (n : ℕ) (f : List ℕ) (i : ℕ) → i < length f → 2 ^ 64 - 1 < 10 * n → number_from n (drop i f) ≡ None
number-over n f i h over =
    let b = get_or f i 0 in
    split (leb '0' b && leb b '9')
    (λ t. number-goes-on n f i h (leb-true '0' b (and_left (leb '0' b) (leb b '9') t)) (leb-true b '9' (and_right (leb '0' b) (leb b '9') t))
    ∙ number_past (10 * n + (b - '0')) (drop (i + 1) f) (omega arith))
    (λ t. number-breaks n f i h t)

-- ---- the numbers after the letter

-- The numbers got and those in the fields left, five at most in all.
unfoldable pub numbers_from : List ℕ → List (List ℕ) → Option (List ℕ)
numbers_from got fs = cond (all_numbers fs && leb (length got + length fs) 5) (Some (got ++ map value fs)) None

pub numbers-start : (fs : List (List ℕ)) → numbers_of fs ≡ numbers_from [] fs
unfolding numbers_of numbers_from
numbers-start fs = ap (λ (n : ℕ). cond (all_numbers fs && leb n 5) (Some (map value fs)) None) (sym (zero-add (length fs)))

pub numbers-end : (got : List ℕ) → length got ≤ 5 → numbers_from got [] ≡ Some got
unfolding numbers_from all_numbers
numbers-end got h =
    chosen (leb (length got + 0) 5) (Some (got ++ [])) None (le-leb (length got + 0) 5 (omega arith)) ∙ ap Some (append-nil got)

-- A field that is no number.
pub numbers-break : (got f : List ℕ) (fs : List (List ℕ)) → is_number f ≡ false → numbers_from got (f ∷ fs) ≡ None
unfolding numbers_from all_numbers
numbers-break got f fs e =
    ap (λ (t : Bool). cond ((t && all_numbers fs) && leb (length got + length (f ∷ fs)) 5) (Some (got ++ map value (f ∷ fs))) None) e

-- A sixth number.
pub numbers-full : (got f : List ℕ) (fs : List (List ℕ)) → length got ≡ 5 → numbers_from got (f ∷ fs) ≡ None
unfolding numbers_from
numbers-full got f fs e =
    passed_over (all_numbers (f ∷ fs) && leb (length got + length (f ∷ fs)) 5) (Some (got ++ map value (f ∷ fs))) None
    (and-off-right (all_numbers (f ∷ fs)) (leb (length got + length (f ∷ fs)) 5) (lt-leb (length got + length (f ∷ fs)) 5 (omega arith)))

-- One number more.
pub numbers_more : (got f : List ℕ) (fs : List (List ℕ)) → is_number f ≡ true → numbers_from got (f ∷ fs) ≡ numbers_from (got ++ value f ∷ []) fs
unfolding numbers_from all_numbers
numbers_more got f fs e =
    ap (λ (t : Bool). cond ((t && all_numbers fs) && leb (length got + length (f ∷ fs)) 5) (Some (got ++ map value (f ∷ fs))) None) e
    ∙ ap (λ (n : ℕ). cond (all_numbers fs && leb n 5) (Some (got ++ map value (f ∷ fs))) None) (count got)
    ∙ ap (λ (ns : List ℕ). cond (all_numbers fs && leb (length (got ++ value f ∷ []) + length fs) 5) (Some ns) None) (sym (append_assoc got (value f ∷ []) (map value fs)))
  where
    count : (ns : List ℕ) → length ns + length (f ∷ fs) ≡ length (ns ++ value f ∷ []) + length fs
    count ns = omega (arith, length-append ns (value f ∷ []))

-- What a field reads as.
pub number-none : (f : List ℕ) → number_of f ≡ None → is_number f ≡ false
unfolding number_of
number-none f = by-test (is_number f)
  where
    by-test : (t : Bool) → cond t (Some (value f)) None ≡ None → t ≡ false
    by-test true e = absurd (cc)
    by-test false e = refl

pub number-some : (f : List ℕ) (n : ℕ) → number_of f ≡ Some n → (is_number f ≡ true) × (value f ≡ n)
unfolding number_of
number-some f n = by-test (is_number f)
  where
    by-test : (t : Bool) → cond t (Some (value f)) None ≡ Some n → (t ≡ true) × (value f ≡ n)
    by-test true e = (refl, cc)
    by-test false e = absurd (cc)

pub number-not : (f : List ℕ) → is_some (number_of f) ≡ false → is_number f ≡ false
unfolding number_of
number-not f = by-test (is_number f)
  where
    by-test : (t : Bool) → is_some (cond t (Some (value f)) None) ≡ false → t ≡ false
    by-test true e = e
    by-test false e = refl

pub number-is : (f : List ℕ) → is_some (number_of f) ≡ true → is_number f ≡ true
unfolding number_of
number-is f = by-test (is_number f)
  where
    by-test : (t : Bool) → is_some (cond t (Some (value f)) None) ≡ true → t ≡ true
    by-test true e = refl
    by-test false e = e

-- No letter has six numbers.
six-unknown : (program : Program) (letter a b c d e f : ℕ) (ns : List ℕ) → command program letter (a ∷ b ∷ c ∷ d ∷ e ∷ f ∷ ns) ≡ Unknown
unfolding drilled damaging
six-unknown Drill letter a b c d e f ns = refl
six-unknown Fault letter a b c d e f ns = refl
six-unknown Page letter a b c d e f ns = refl
six-unknown Hex letter a b c d e f ns = refl

many-unknown : (program : Program) (letter : ℕ) (ns : List ℕ) → 5 < length ns → command program letter ns ≡ Unknown
many-unknown program letter [] h = absurd (omega arith)
many-unknown program letter (a ∷ []) h = absurd (omega arith)
many-unknown program letter (a ∷ b ∷ []) h = absurd (omega arith)
many-unknown program letter (a ∷ b ∷ c ∷ []) h = absurd (omega arith)
many-unknown program letter (a ∷ b ∷ c ∷ d ∷ []) h = absurd (omega arith)
many-unknown program letter (a ∷ b ∷ c ∷ d ∷ e ∷ []) h = absurd (omega arith)
many-unknown program letter (a ∷ b ∷ c ∷ d ∷ e ∷ f ∷ ns) h = six-unknown program letter a b c d e f ns

-- ---- the fields of a line

pub formed_no_letter : (program : Program) (fs : List (List ℕ)) → lone_letter fs ≡ None → formed program fs ≡ Unknown
unfolding formed lone_letter
formed_no_letter program [] e = refl
formed_no_letter program ([] ∷ fs) e = refl
formed_no_letter program ((letter ∷ []) ∷ fs) e = absurd (cc)
formed_no_letter program ((a ∷ b ∷ more) ∷ fs) e = refl

-- A letter with fields that are not all numbers, or too many.
unnumbered : (program : Program) (letter : ℕ) (fs : List (List ℕ)) → numbers_of fs ≡ None → cond (all_numbers fs) (command program letter (map value fs)) Unknown ≡ Unknown
unfolding numbers_of
unnumbered program letter fs e =
    split (all_numbers fs)
    (λ t. split (leb (length fs) 5)
    (λ u. absurd (kept e (chosen (all_numbers fs && leb (length fs) 5) (Some (map value fs)) None (and_both (all_numbers fs) (leb (length fs) 5) t u))))
    (λ u. chosen (all_numbers fs) (command program letter (map value fs)) Unknown t
    ∙ many-unknown program letter (map value fs) (omega (arith, leb-false (length fs) 5 u, length-map fs value))))
    (λ t. passed_over (all_numbers fs) (command program letter (map value fs)) Unknown t)
  where
    kept : {x : Option (List ℕ)} {ns : List ℕ} → x ≡ None → x ≡ Some ns → ⊥
    kept p q = absurd (cc)

pub formed_no_numbers : (program : Program) (fs : List (List ℕ)) → numbers_of (drop 1 fs) ≡ None → formed program fs ≡ Unknown
unfolding formed
formed_no_numbers program [] e = refl
formed_no_numbers program ([] ∷ fs) e = refl
formed_no_numbers program ((letter ∷ []) ∷ fs) e = unnumbered program letter fs e
formed_no_numbers program ((a ∷ b ∷ more) ∷ fs) e = refl

numbered : (fs : List (List ℕ)) (ns : List ℕ) → numbers_of fs ≡ Some ns → (all_numbers fs ≡ true) × (ns ≡ map value fs)
unfolding numbers_of
numbered fs ns e =
    split (all_numbers fs && leb (length fs) 5)
    (λ t. (and_left (all_numbers fs) (leb (length fs) 5) t, same (sym (chosen (all_numbers fs && leb (length fs) 5) (Some (map value fs)) None t) ∙ e)))
    (λ t. absurd (none (sym (passed_over (all_numbers fs && leb (length fs) 5) (Some (map value fs)) None t) ∙ e)))
  where
    same : {x y : List ℕ} → Some x ≡ Some y → y ≡ x
    same e = cc

    none : {x : List ℕ} → None ≡ Some x → ⊥
    none e = absurd (cc)

-- A letter with its numbers.
pub formed_lettered : (program : Program) (fs : List (List ℕ)) (letter : ℕ) (ns : List ℕ) → lone_letter fs ≡ Some letter → numbers_of (drop 1 fs) ≡ Some ns →
    command program letter ns ≡ formed program fs
unfolding formed lone_letter
formed_lettered program [] letter ns e f = absurd (cc)
formed_lettered program ([] ∷ fs) letter ns e f = absurd (cc)
formed_lettered program ((l ∷ []) ∷ fs) letter ns e f =
    let h = numbered fs ns f in
    ap (λ (xs : List ℕ). command program letter xs) h.1
    ∙ ap (λ (x : ℕ). command program x (map value fs)) (same e)
    ∙ sym (chosen (all_numbers fs) (command program l (map value fs)) Unknown h.0)
  where
    same : {x y : ℕ} → Some x ≡ Some y → y ≡ x
    same e = cc
formed_lettered program ((a ∷ b ∷ more) ∷ fs) letter ns e f = absurd (cc)

-- ---- the line

-- A line over 79 bytes.
pub meaning-long : (program : Program) (s : List ℕ) → 79 < length s → meaning program s ≡ Unknown
unfolding meaning
meaning-long program s h = chosen (ltb 79 (length s)) Unknown (formed program (fields s)) (lt-ltb 79 (length s) h)

-- The page program's lines mean what the drill's do.
formed-page : (fs : List (List ℕ)) → formed Page fs ≡ formed Drill fs
unfolding formed
formed-page [] = refl
formed-page ([] ∷ fs) = refl
formed-page ((letter ∷ []) ∷ fs) = refl
formed-page ((a ∷ b ∷ more) ∷ fs) = refl

pub meaning-page : (s : List ℕ) → meaning Page s ≡ meaning Drill s
unfolding meaning
meaning-page s = ap (cond (ltb 79 (length s)) Unknown) (formed-page (fields s))

-- So do the HEX program's.
formed-hex : (fs : List (List ℕ)) → formed Hex fs ≡ formed Drill fs
unfolding formed
formed-hex [] = refl
formed-hex ([] ∷ fs) = refl
formed-hex ((letter ∷ []) ∷ fs) = refl
formed-hex ((a ∷ b ∷ more) ∷ fs) = refl

pub meaning-hex : (s : List ℕ) → meaning Hex s ≡ meaning Drill s
unfolding meaning
meaning-hex s = ap (cond (ltb 79 (length s)) Unknown) (formed-hex (fields s))

-- The first 80 bytes of a line say what it means.
pub meaning-kept : (program : Program) (s : List ℕ) → meaning program (take 80 s) ≡ meaning program s
meaning-kept program s =
    split (ltb 79 (length s))
    (λ t. let long : 79 < length s = ltb-true 79 (length s) t in
    meaning-long program (take 80 s) (omega (arith, length-take-le 80 s (omega arith))) ∙ sym (meaning-long program s long))
    (λ t. ap (meaning program) (take_all 80 s (omega (arith, ltb-false 79 (length s) t))))
