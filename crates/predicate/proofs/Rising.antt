-- Laws of the numbers below one, and of those among them that pass a test, rising.
use Prim.Native.Nat.{ℕ, zero, suc, ◌+◌, ◌<◌}
use mathlib.Core.Path.{◌≡◌, refl, sym, ap, subst, ◌∙◌}
use mathlib.Core.List.{List, [], ◌∷◌, ◌++◌, map}
use mathlib.Core.Bool.{Bool, true}
use native.Mathlib.Omega.{arith}
use native.Mathlib.Decide.{dec_lt}
use lib.ListN.{length, get_or, length-map, length-append, get_or-append}
use lib.Seq.{get_or-append-add, ext_get_or}
use Rattle.predicate.specs.Passing.{count_under, nth_under, numbers_under, passing}
use Rattle.predicate.proofs.Bools.{split, chosen, passed_over}
use Rattle.predicate.proofs.Passing.{count_next, one_on, one-off, Nth, nth-found, nth-one}

-- ---- the numbers below one

-- There are `n` numbers below `n`.
pub under-length : (n : ℕ) → length (numbers_under n) ≡ n
unfolding numbers_under
under-length zero = refl
under-length (suc n) = omega (arith, length-append (numbers_under n) (n ∷ []), under-length n)

-- Each stands at its own place.
pub under_at : (n p : ℕ) → p < n → get_or (numbers_under n) p 0 ≡ p
unfolding numbers_under
under_at zero p h = absurd (omega arith)
under_at (suc n) p h =
    elim (dec_lt p n) [
      | yes b ↦ get_or-append (numbers_under n) (n ∷ []) 0 p (omega (arith, under-length n)) ∙ under_at n p b
      | no o ↦
          ap (λ (k : ℕ). get_or (numbers_under n ++ (n ∷ [])) k 0) (let e : p ≡ length (numbers_under n) + 0 = omega (arith, under-length n) in e)
          ∙ get_or-append-add (numbers_under n) (n ∷ []) 0 0
          ∙ omega arith
    ]

-- ---- the numbers that pass, rising

-- Those of two lists, one behind the other.
passing-append : (f : ℕ → Bool) (xs ys : List ℕ) → passing f (xs ++ ys) ≡ passing f xs ++ passing f ys
unfolding passing
passing-append f [] ys = refl
passing-append f (x ∷ xs) ys =
    split (f x)
    (λ t.
    chosen (f x) (x ∷ passing f (xs ++ ys)) (passing f (xs ++ ys)) t
    ∙ ap {B = List ℕ} (λ r. x ∷ r) (passing-append f xs ys)
    ∙ sym (ap (λ (r : List ℕ). r ++ passing f ys) (chosen (f x) (x ∷ passing f xs) (passing f xs) t)))
    (λ t.
    passed_over (f x) (x ∷ passing f (xs ++ ys)) (passing f (xs ++ ys)) t
    ∙ passing-append f xs ys
    ∙ sym (ap (λ (r : List ℕ). r ++ passing f ys) (passed_over (f x) (x ∷ passing f xs) (passing f xs) t)))

-- The numbers below `n` that pass, rising.
abbrev pub rising : ℕ → (ℕ → Bool) → List ℕ
rising n f = passing f (numbers_under n)

-- There are as many as are counted.
pub rising-length : (n : ℕ) (f : ℕ → Bool) → length (rising n f) ≡ count_under n f
unfolding passing numbers_under count_under
rising-length zero f = refl
rising-length (suc n) f =
    ap length (passing-append f (numbers_under n) (n ∷ []))
    ∙ length-append (rising n f) (passing f (n ∷ []))
    ∙ split (f n)
    (λ t. omega (arith, rising-length n f, count_next n f, one_on (f n) t, ap length (chosen (f n) (n ∷ []) [] t)))
    (λ t. omega (arith, rising-length n f, count_next n f, one-off (f n) t, ap length (passed_over (f n) (n ∷ []) [] t)))

-- The last of them, where `n` is one.
rising-last : (n : ℕ) (f : ℕ → Bool) (p : ℕ) → f n ≡ true → p ≡ count_under n f → Nth (suc n) f p (get_or (rising n f ++ passing f (n ∷ [])) p 0)
unfolding passing
rising-last n f p t e =
    let at : get_or (rising n f ++ passing f (n ∷ [])) p 0 ≡ n = ap (λ (k : ℕ). get_or (rising n f ++ passing f (n ∷ [])) k 0) (let q : p ≡ length (rising n f) + 0 = omega (arith, rising-length n f) in q)
    ∙ get_or-append-add (rising n f) (passing f (n ∷ [])) 0 0
    ∙ ap (λ (xs : List ℕ). get_or xs 0 0) (chosen (f n) (n ∷ []) [] t) in
    subst (Nth (suc n) f p) (sym at) (record { passes = t; rank = sym e; within = omega arith })

-- Each stands at its rank.
pub rising-nth : (n : ℕ) (f : ℕ → Bool) (p : ℕ) → p < count_under n f → Nth n f p (get_or (rising n f) p 0)
unfolding passing numbers_under count_under
rising-nth zero f p h = absurd (omega arith)
rising-nth (suc n) f p h =
    subst (λ (xs : List ℕ). Nth (suc n) f p (get_or xs p 0)) (sym (passing-append f (numbers_under n) (n ∷ [])))
    (elim (dec_lt p (count_under n f)) [
      | yes b ↦
          let old = rising-nth n f p b in
          subst (Nth (suc n) f p) (sym (get_or-append (rising n f) (passing f (n ∷ [])) 0 p (omega (arith, rising-length n f))))
          (record { passes = old.passes; rank = old.rank; within = omega (arith, old.within) })
      | no o ↦
          split (f n)
          (λ t. rising-last n f p t (omega (arith, count_next n f, one_on (f n) t)))
          (λ t. absurd (omega (arith, count_next n f, one-off (f n) t)))
    ])

-- So they are those found by search, one after the other.
pub rising-listed : (n : ℕ) (f : ℕ → Bool) → map (nth_under n f) (numbers_under (count_under n f)) ≡ rising n f
rising-listed n f =
    let ns = numbers_under (count_under n f) in
    let size : length (map (nth_under n f) ns) ≡ count_under n f = length-map ns (nth_under n f) ∙ under-length (count_under n f) in
    ext_get_or 0 (map (nth_under n f) ns) (rising n f) (size ∙ sym (rising-length n f))
    (λ p h.
    let low : p < count_under n f = omega arith in
    map_at (nth_under n f) ns p (omega (arith, under-length (count_under n f)))
    ∙ ap (nth_under n f) (under_at (count_under n f) p low)
    ∙ nth-one {n = n} {m = n} f (nth_under n f p) (get_or (rising n f) p 0) (nth-found n f p low) (rising-nth n f p low))
  where
    map_at : (g : ℕ → ℕ) (ns : List ℕ) (k : ℕ) → k < length ns → get_or (map g ns) k 0 ≡ g (get_or ns k 0)
    map_at g [] k h = absurd (omega arith)
    map_at g (m ∷ ns) zero h = refl
    map_at g (m ∷ ns) (suc k) h = map_at g ns k (omega arith)
