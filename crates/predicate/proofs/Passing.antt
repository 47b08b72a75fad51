-- Laws of the numbers that pass a test.
use Prim.Native.Nat.{ℕ, zero, suc, ◌+◌, ◌-◌, ◌≤◌, ◌<◌}
use mathlib.Core.Path.{◌≡◌, refl, sym, ap, ap₂, subst, ◌∙◌}
use mathlib.Core.Bool.{Bool, true, false, cond, ◌&&◌}
use native.Mathlib.Omega.{arith}
use native.Mathlib.Decide.{dec_lt}
use native.Mathlib.Nat.{zero-add, add-suc}
use lib.Dec.{ltb, eqb}
use borrow.Author.Tests.{ltb-true, ltb-false, eqb-true, eqb-false}
use Rattle.predicate.proofs.Bools.{on, split, chosen, passed_over, or_left, or_right, or-none, and_left, and_right}
use Rattle.predicate.specs.Passing.{any_under, count_under, nth_from, nth_under}

-- ---- whether one passes

-- No number below `n` passes the test, taken at one of them.
pub none-under : (n : ℕ) (test : ℕ → Bool) → any_under n test ≡ false → (i : ℕ) → i < n → test i ≡ false
unfolding any_under
none-under zero test e i h = absurd (omega arith)
none-under (suc n) test e i h =
    split (ltb i n)
    (λ b. none-under n test (or_left (any_under n test) (test n) e) i (ltb-true i n b))
    (λ b. let same : n ≡ i = omega (arith, ltb-false i n b) in subst (λ (k : ℕ). test k ≡ false) same (or_right (any_under n test) (test n) e))

-- A test that fails at every number below `n`.
pub under_none : (n : ℕ) (test : ℕ → Bool) → ((i : ℕ) → i < n → test i ≡ false) → any_under n test ≡ false
unfolding any_under
under_none zero test f = refl
under_none (suc n) test f = or-none (any_under n test) (test n) (under_none n test (λ i h. f i (omega arith))) (f n (omega arith))

-- ---- how many pass

-- 1 where a test is passed, 0 where it is not.
abbrev pub one_if : Bool → ℕ
one_if t = cond t 1 0

pub one_on : (t : Bool) → t ≡ true → one_if t ≡ 1
one_on t e = ap one_if e

pub one-off : (t : Bool) → t ≡ false → one_if t ≡ 0
one-off t e = ap one_if e

-- One number more.
pub count_next : (n : ℕ) (f : ℕ → Bool) → count_under (suc n) f ≡ count_under n f + one_if (f n)
unfolding count_under
count_next n f = refl

-- At most `n` numbers below `n` pass.
pub count_most : (n : ℕ) (f : ℕ → Bool) → count_under n f ≤ n
unfolding count_under
count_most zero f = omega arith
count_most (suc n) f = omega (arith, count_most n f, one-most (f n))
  where
    one-most : (t : Bool) → one_if t ≤ 1
    one-most true = omega arith
    one-most false = omega arith

-- No number below `n` passes.
pub count_none : (n : ℕ) (f : ℕ → Bool) → ((c : ℕ) → f c ≡ false) → count_under n f ≡ 0
unfolding count_under
count_none zero f none = refl
count_none (suc n) f none = omega (arith, count_none n f none, one-off (f n) (none n))

-- Tests that agree below `n` are passed equally often.
pub count-alike : (n : ℕ) (f g : ℕ → Bool) → ((c : ℕ) → c < n → f c ≡ g c) → count_under n f ≡ count_under n g
unfolding count_under
count-alike zero f g same = refl
count-alike (suc n) f g same =
    let below = count-alike n f g (λ c h. same c (omega arith)) in
    λ i. below i + one_if (same n (omega arith) i)

-- The numbers below `n`, and those from `n` on, are counted apart.
pub count-split : (n m : ℕ) (f : ℕ → Bool) → count_under (n + m) f ≡ count_under n f + count_under m (λ i. f (n + i))
unfolding count_under
count-split n zero f = ap (λ (k : ℕ). count_under k f) (let e : n + 0 ≡ n = omega arith in e) ∙ omega arith
count-split n (suc m) f =
    ap (λ (k : ℕ). count_under k f) (add-suc n m)
    ∙ count_next (n + m) f
    ∙ omega (arith, count-split n m f, count_next m (λ i. f (n + i)))

-- Number 0, and the numbers after it, are counted apart.
pub count-shift : (n : ℕ) (f : ℕ → Bool) → count_under (suc n) f ≡ one_if (f 0) + count_under n (λ i. f (suc i))
unfolding count_under
count-shift zero f = omega (arith, count_next 0 f)
count-shift (suc n) f = count_next (suc n) f ∙ omega (arith, count-shift n f, count_next n (λ i. f (suc i)))

-- None passes from `n` to `m`.
pub count_past : (n m : ℕ) (f : ℕ → Bool) → n ≤ m → ((i : ℕ) → n ≤ i → i < m → f i ≡ false) → count_under m f ≡ count_under n f
count_past n zero f h none = ap (λ (k : ℕ). count_under k f) (let e : 0 ≡ n = omega arith in e)
count_past n (suc m) f h none =
    elim (dec_lt m n) [
      | yes b ↦ ap (λ (k : ℕ). count_under k f) (let e : suc m ≡ n = omega arith in e)
      | no b ↦ omega (arith, count_next m f, one-off (f m) (none m (omega arith) (omega arith)), count_past n m f (omega arith) (λ i p q. none i p (omega arith)))
    ]

-- Among more numbers no fewer pass.
pub count-mono : (n m : ℕ) (f : ℕ → Bool) → n ≤ m → count_under n f ≤ count_under m f
count-mono n zero f h = omega (arith, ap (λ (k : ℕ). count_under k f) (let e : n ≡ 0 = omega arith in e))
count-mono n (suc m) f h =
    elim (dec_lt m n) [
      | yes b ↦ omega (arith, ap (λ (k : ℕ). count_under k f) (let e : n ≡ suc m = omega arith in e))
      | no b ↦ omega (arith, count_next m f, count-mono n m f (omega arith))
    ]

-- Below a number that passes fewer pass than below a greater one.
pub count_less : (i m : ℕ) (f : ℕ → Bool) → i < m → f i ≡ true → count_under i f < count_under m f
count_less i m f h t = omega (arith, count_next i f, one_on (f i) t, count-mono (suc i) m f h)

-- ---- which is the p-th

-- The p-th number that passes: it does, `p` numbers below it do, and it is below `n`.
pub record Nth (n : ℕ) (f : ℕ → Bool) (p q : ℕ) : Type 0 where
  pub passes : f q ≡ true
  pub rank : count_under q f ≡ p
  pub within : q < n

-- A number that passes after the first is found behind it.
nth-later : (n : ℕ) (f : ℕ → Bool) (p k q : ℕ) → k + one_if (f 0) ≡ p → Nth n (λ i. f (suc i)) k q → Nth (suc n) f p (suc q)
nth-later n f p k q e found =
    record { passes = found.passes; rank = count-shift q f ∙ omega (arith, found.rank); within = omega (arith, found.within) }

-- A search from 0, the test being shifted: what `nth_from` finds, counted from where it begins.
unfoldable pub nth_shifted : ℕ → (ℕ → Bool) → ℕ → ℕ
nth_shifted zero f p = 0
nth_shifted (suc n) f p = cond (f 0 && eqb p 0) 0 (suc (nth_shifted n (λ i. f (suc i)) (cond (f 0) (p - 1) p)))

shifted-from : (n i p : ℕ) (f : ℕ → Bool) → nth_from f n i p ≡ i + nth_shifted n (λ j. f (i + j)) p
unfolding nth_from nth_shifted
shifted-from zero i p f = omega arith
shifted-from (suc n) i p f =
    let here : f (i + 0) ≡ f i = ap f (let e : i + 0 ≡ i = omega arith in e) in
    let after : ◌≡◌ {A = ℕ → Bool} (λ j. f (suc i + j)) (λ j. f (i + suc j)) = λ k j. f (move j k) in
    let rest : nth_from f n (suc i) (cond (f i) (p - 1) p) ≡ i + suc (nth_shifted n (λ j. f (i + suc j)) (cond (f (i + 0)) (p - 1) p)) = shifted-from n (suc i) (cond (f i) (p - 1) p) f
    ∙ ap₂ (λ (g : ℕ → Bool) (t : Bool). suc i + nth_shifted n g (cond t (p - 1) p)) after (sym here)
    ∙ omega arith in
    split (f i && eqb p 0)
    (λ t. chosen (f i && eqb p 0) i _ t ∙ sym (ap (λ (k : ℕ). i + k) (chosen (f (i + 0) && eqb p 0) 0 _ (ap (λ (u : Bool). u && eqb p 0) here ∙ t)) ∙ omega arith))
    (λ t. passed_over (f i && eqb p 0) i _ t ∙ rest ∙ sym (ap (λ (k : ℕ). i + k) (passed_over (f (i + 0) && eqb p 0) 0 _ (ap (λ (u : Bool). u && eqb p 0) here ∙ t))))
  where
    move : (j : ℕ) → suc i + j ≡ i + suc j
    move j = omega arith

pub nth-shifted : (n : ℕ) (f : ℕ → Bool) (p : ℕ) → nth_under n f p ≡ nth_shifted n f p
unfolding nth_under
nth-shifted n f p = shifted-from n 0 p f ∙ ap (λ (g : ℕ → Bool). 0 + nth_shifted n g p) (λ k j. f (zero-add j k)) ∙ zero-add (nth_shifted n f p)

-- A search for a number that there is finds it.
shifted-found : (n : ℕ) (f : ℕ → Bool) (p : ℕ) → p < count_under n f → Nth n f p (nth_shifted n f p)
unfolding nth_shifted count_under
shifted-found zero f p h = absurd (omega arith)
shifted-found (suc n) f p h =
    on (Nth (suc n) f p) (f 0 && eqb p 0) 0 _
    (λ t. record { passes = and_left (f 0) (eqb p 0) t; rank = sym (eqb-true p 0 (and_right (f 0) (eqb p 0) t)); within = omega arith })
    (λ o.
    let k = cond (f 0) (p - 1) p in
    let e = left (f 0) o in
    nth-later n f p k _ e (shifted-found n (λ i. f (suc i)) k (omega (arith, count-shift n f))))
  where
    left : (t : Bool) → t && eqb p 0 ≡ false → cond t (p - 1) p + one_if t ≡ p
    left true o = omega (arith, eqb-false p 0 o)
    left false o = omega arith

pub nth-found : (n : ℕ) (f : ℕ → Bool) (p : ℕ) → p < count_under n f → Nth n f p (nth_under n f p)
nth-found n f p h = subst (Nth n f p) (sym (nth-shifted n f p)) (shifted-found n f p h)

-- There is only one.
pub nth-one : {n m : ℕ} (f : ℕ → Bool) {p : ℕ} (q q' : ℕ) → Nth n f p q → Nth m f p q' → q ≡ q'
nth-one f q q' a b =
    elim (dec_lt q q') [
      | yes h ↦ absurd (omega (arith, count_less q q' f h a.passes, a.rank, b.rank))
      | no h ↦
          elim (dec_lt q' q) [
            | yes h' ↦ absurd (omega (arith, count_less q' q f h' b.passes, a.rank, b.rank))
            | no h' ↦ omega arith
          ]
    ]

-- So a number that passes is found by how many pass below it.
pub nth-unique : (n : ℕ) (f : ℕ → Bool) (p q : ℕ) → Nth n f p q → q ≡ nth_under n f p
nth-unique n f p q a =
    nth-one f q (nth_under n f p) a (nth-found n f p (omega (arith, count_less q n f a.within a.passes, a.rank)))
