-- Each arm has the number of the word that `last` stands in.
use Prim.Native.Nat.{ℕ, zero, suc, ◌+◌, ◌-◌, ◌*◌, ◌/◌, ◌%◌, ◌^◌, ◌≤◌, ◌<◌}
use mathlib.Core.Path.{◌≡◌, refl, ap, ◌∙◌}
use mathlib.Core.List.{List, [], ◌∷◌}
use mathlib.Core.Bool.{not}
use native.Mathlib.Omega.{arith}
use borrow.Author.Rules.{rules}
use lib.Dec.{ltb, eqb}
use lib.ListN.{drop, get_or, length}
use Rattle.predicate.specs.Passing.{any_under}
use Rattle.bitset.proofs.United.{united, past-none, past-rest}
use Rattle.bitset.proofs.past.Goals as goal

-- Each of eight words is one of 64 bits.
abbrev Small : ℕ → Type 0
Small n = n < 2 ^ 64

small : {a b c d e f g h : ℕ} → Small a × Small b × Small c × Small d × Small e × Small f × Small g × Small h
    → (k : ℕ) → get_or (a ∷ b ∷ c ∷ d ∷ e ∷ f ∷ g ∷ h ∷ []) k 0 < 2 ^ 64
small s zero = s.0
small s (suc zero) = s.1
small s (suc (suc zero)) = s.2
small s (suc (suc (suc zero))) = s.3
small s (suc (suc (suc (suc zero)))) = s.4
small s (suc (suc (suc (suc (suc zero))))) = s.5
small s (suc (suc (suc (suc (suc (suc zero)))))) = s.6
small s (suc (suc (suc (suc (suc (suc (suc zero))))))) = s.7
small s (suc (suc (suc (suc (suc (suc (suc (suc k)))))))) = omega arith

-- Where `last` stands in word `k`.
in-word : (k : ℕ) (words : List ℕ) (last : ℕ) → ((j : ℕ) → get_or words j 0 < 2 ^ 64) → length words ≡ 8 → last / 64 ≡ k → k < 8
    → {own : ℕ} → own ≡ get_or words k 0 / 2 ^ (last % 64) / 2
    → not (eqb (united own (drop (suc k) words)) 0) ≡ any_under 8 (λ j. ltb 0 (get_or words j 0 / 2 ^ (last + 1 - 64 * j)))
in-word k words last fits eight at inside e =
    ap (λ (x : ℕ). not (eqb (united x (drop (suc k) words)) 0)) e ∙ past-rest words last fits eight k at inside

pub returns-in-0 : goal.returns-in-0
returns-in-0 c =
    in-word 0 (c.args.a ∷ c.args.b ∷ c.args.c ∷ c.args.d ∷ c.args.e ∷ c.args.f ∷ c.args.g ∷ c.args.h ∷ []) c.args.last
    (small (search rules))
    refl c.in-0.is (omega arith) c.after.ensures

pub returns-in-1 : goal.returns-in-1
returns-in-1 c =
    in-word 1 (c.args.a ∷ c.args.b ∷ c.args.c ∷ c.args.d ∷ c.args.e ∷ c.args.f ∷ c.args.g ∷ c.args.h ∷ []) c.args.last
    (small (search rules))
    refl c.in-1.is (omega arith) c.after-in-1.ensures

pub returns-in-2 : goal.returns-in-2
returns-in-2 c =
    in-word 2 (c.args.a ∷ c.args.b ∷ c.args.c ∷ c.args.d ∷ c.args.e ∷ c.args.f ∷ c.args.g ∷ c.args.h ∷ []) c.args.last
    (small (search rules))
    refl c.in-2.is (omega arith) c.after-in-2.ensures

pub returns-in-3 : goal.returns-in-3
returns-in-3 c =
    in-word 3 (c.args.a ∷ c.args.b ∷ c.args.c ∷ c.args.d ∷ c.args.e ∷ c.args.f ∷ c.args.g ∷ c.args.h ∷ []) c.args.last
    (small (search rules))
    refl c.in-3.is (omega arith) c.after-in-3.ensures

pub returns-in-4 : goal.returns-in-4
returns-in-4 c =
    in-word 4 (c.args.a ∷ c.args.b ∷ c.args.c ∷ c.args.d ∷ c.args.e ∷ c.args.f ∷ c.args.g ∷ c.args.h ∷ []) c.args.last
    (small (search rules))
    refl c.in-4.is (omega arith) c.after-in-4.ensures

pub returns-in-5 : goal.returns-in-5
returns-in-5 c =
    in-word 5 (c.args.a ∷ c.args.b ∷ c.args.c ∷ c.args.d ∷ c.args.e ∷ c.args.f ∷ c.args.g ∷ c.args.h ∷ []) c.args.last
    (small (search rules))
    refl c.in-5.is (omega arith) c.after-in-5.ensures

pub returns-in-6 : goal.returns-in-6
returns-in-6 c =
    in-word 6 (c.args.a ∷ c.args.b ∷ c.args.c ∷ c.args.d ∷ c.args.e ∷ c.args.f ∷ c.args.g ∷ c.args.h ∷ []) c.args.last
    (small (search rules))
    refl c.in-6.is (omega arith) c.after-in-6.ensures

pub returns-in-7 : goal.returns-in-7
returns-in-7 c =
    in-word 7 (c.args.a ∷ c.args.b ∷ c.args.c ∷ c.args.d ∷ c.args.e ∷ c.args.f ∷ c.args.g ∷ c.args.h ∷ []) c.args.last
    (small (search rules))
    refl c.in-7.is (omega arith) c.after-in-7.ensures

pub returns-in_default : goal.returns-in_default
returns-in_default c =
    let none = c.in_default.in_default-own.rest in
    let four : 4 ≤ c.args.last / 64 = omega (arith, none.0.0.0.0) in
    past-none (c.args.a ∷ c.args.b ∷ c.args.c ∷ c.args.d ∷ c.args.e ∷ c.args.f ∷ c.args.g ∷ c.args.h ∷ []) c.args.last
    (small (search rules))
    refl (omega (arith, four, none.0.0.0.1, none.0.0.1, none.0.1, none.1))
