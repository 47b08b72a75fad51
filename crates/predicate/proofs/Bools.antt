-- Laws of tests: what a passed or failed test says, and a choice by a test taken apart.
use mathlib.Core.Path.{◌≡◌, refl, subst}
use mathlib.Core.Bool.{Bool, true, false, cond, not, ◌&&◌, ◌||◌, true≢false, false≢true}

-- A choice by a test, with what the test says.
pub on {ℓ ℓ'} : {A : Type ℓ} (P : A → Type ℓ') (t : Bool) (x y : A) → (t ≡ true → P x) → (t ≡ false → P y) → P (cond t x y)
on P true x y f g = f refl
on P false x y f g = g refl

-- A choice by a test that holds.
pub chosen {ℓ} : {A : Type ℓ} (t : Bool) (x y : A) → t ≡ true → cond t x y ≡ x
chosen true x y e = refl
chosen false x y e = absurd (false≢true e)

-- A choice by a test that fails.
pub passed_over {ℓ} : {A : Type ℓ} (t : Bool) (x y : A) → t ≡ false → cond t x y ≡ y
passed_over true x y e = absurd (true≢false e)
passed_over false x y e = refl

-- What is to be shown of a test, by its two cases.
pub decide {ℓ} : (P : Bool → Type ℓ) (t : Bool) → (t ≡ true → P true) → (t ≡ false → P false) → P t
decide P true f g = f refl
decide P false f g = g refl

-- Two cases of a test.
pub split {ℓ} : {A : Type ℓ} (t : Bool) → (t ≡ true → A) → (t ≡ false → A) → A
split true f g = f refl
split false f g = g refl

-- A test that both holds and fails.
pub clash : {t : Bool} → t ≡ true → t ≡ false → ⊥
clash {t} p q = true≢false (subst (λ (x : Bool). x ≡ false) p q)

pub or_left : (a b : Bool) → a || b ≡ false → a ≡ false
or_left true b e = e
or_left false b e = refl

pub or_right : (a b : Bool) → a || b ≡ false → b ≡ false
or_right true b e = absurd (true≢false e)
or_right false b e = e

pub or-none : (a b : Bool) → a ≡ false → b ≡ false → a || b ≡ false
or-none true b p q = p
or-none false b p q = q

pub and_left : (a b : Bool) → a && b ≡ true → a ≡ true
and_left true b e = refl
and_left false b e = e

pub and_right : (a b : Bool) → a && b ≡ true → b ≡ true
and_right true b e = e
and_right false b e = absurd (false≢true e)

pub and_both : (a b : Bool) → a ≡ true → b ≡ true → a && b ≡ true
and_both true b p q = q
and_both false b p q = p

-- Where the first of two tests holds and not both, the second fails.
pub and-not : (a b : Bool) → a && b ≡ false → a ≡ true → b ≡ false
and-not true b e p = e
and-not false b e p = absurd (false≢true p)

-- Where one of two tests fails, not both hold.
pub and-off : (a b : Bool) → a ≡ false → a && b ≡ false
and-off true b e = absurd (true≢false e)
and-off false b e = refl

pub and-off-right : (a b : Bool) → b ≡ false → a && b ≡ false
and-off-right true b e = e
and-off-right false b e = refl

-- Where the first of two tests rules the second out, not both hold.
pub and-if : (a b : Bool) → (a ≡ true → b ≡ false) → a && b ≡ false
and-if true b f = f refl
and-if false b f = refl

pub not-off : (a : Bool) → not a ≡ false → a ≡ true
not-off true e = refl
not-off false e = absurd (true≢false e)

pub not_on_lem : (a : Bool) → a ≡ true → not a ≡ false
not_on_lem true e = refl
not_on_lem false e = absurd (false≢true e)

pub not-of : (a : Bool) → not a ≡ true → a ≡ false
not-of true e = absurd (false≢true e)
not-of false e = refl

pub not-to : (a : Bool) → a ≡ false → not a ≡ true
not-to true e = absurd (true≢false e)
not-to false e = refl
