-- What is put is what is read back.
use Rattle.std.proofs.Common.{◌≡◌, ℕ, zero, suc, ◌-◌, ◌<◌, ◌≤◌, true, false, cond, ◌&&◌, eqb, ltb, leb, List, [], ◌∷◌, length, get_or, set, sym, refl, ap, ◌∙◌, arith, length-set, ext_get_or, ne_eqb, eqb-true, leb-true}
use Rattle.locks.specs.Holders.{held_by, given_back}
use Rattle.locks.proofs.Holders.{digit-own, digit-other}
use Rattle.predicate.proofs.Bools.{on, split, clash, and_left, and_right, chosen, passed_over}
use Rattle.damage.specs.Record.{phase_of, undo_of, store_of, field_fits, with_field, unused, condition_fits, condition_of}
use Rattle.damage.specs.Checksum.{phase_number, undo_number, store_number, request_number, holder_number}
use Rattle.damage.specs.Damages.{FieldsReadBack, WordsReadBack, WorkersReadBack, HoldersReadBack}

phase-back : (v : ℕ) → v ≤ 3 → phase_number (phase_of v) ≡ v
phase-back zero h = refl
phase-back (suc zero) h = refl
phase-back (suc (suc zero)) h = refl
phase-back (suc (suc (suc zero))) h = refl
phase-back (suc (suc (suc (suc v)))) h = absurd (omega arith)

undo-back : (v : ℕ) → v ≤ 2 → undo_number (undo_of v) ≡ v
undo-back zero h = refl
undo-back (suc zero) h = refl
undo-back (suc (suc zero)) h = refl
undo-back (suc (suc (suc v))) h = absurd (omega arith)

store-back : (v : ℕ) → v ≤ 2 → store_number (store_of v) ≡ v
store-back zero h = refl
store-back (suc zero) h = refl
store-back (suc (suc zero)) h = refl
store-back (suc (suc (suc v))) h = absurd (omega arith)

request-back : (v : ℕ) → v ≤ 1 → request_number (eqb v 1) ≡ v
request-back zero h = refl
request-back (suc zero) h = refl
request-back (suc (suc v)) h = absurd (omega arith)

-- There is no field from 7 on.
no_field : (k v : ℕ) → 7 ≤ k → field_fits k v ≡ false
unfolding field_fits
no_field k v h =
    simp (ne_eqb k 0 (λ e. omega arith), ne_eqb k 1 (λ e. omega arith), ne_eqb k 2 (λ e. omega arith), ne_eqb k 4 (λ e. omega arith), ne_eqb k 5 (λ e. omega arith), ne_eqb k 6 (λ e. omega arith))

-- There are four conditions.
no-condition : (c n a v : ℕ) → 4 ≤ c → condition_fits c n a v ≡ false
unfolding condition_fits
no-condition c n a v h = simp (ne_eqb c 0 (λ e. omega arith), ne_eqb c 1 (λ e. omega arith), ne_eqb c 2 (λ e. omega arith), ne_eqb c 3 (λ e. omega arith))

-- Each field.
pub fields_back : FieldsReadBack
unfolding field_fits with_field
fields_back s zero v fits = phase-back v (leb-true v 3 fits)
fields_back s (suc zero) v fits = refl
fields_back s (suc (suc zero)) v fits = refl
fields_back s (suc (suc (suc zero))) v fits = absurd (clash fits refl)
fields_back s (suc (suc (suc (suc zero)))) v fits = refl
fields_back s (suc (suc (suc (suc (suc zero))))) v fits = undo-back v (leb-true v 2 fits)
fields_back s (suc (suc (suc (suc (suc (suc zero)))))) v fits = request-back v (leb-true v 1 fits)
fields_back s (suc (suc (suc (suc (suc (suc (suc k))))))) v fits = absurd (clash fits (no_field (suc (suc (suc (suc (suc (suc (suc k))))))) v (omega arith)))

-- Eight words, one by one.
eight-words : (l : List ℕ) → length l ≡ 8 → get_or l 0 0 ∷ get_or l 1 0 ∷ get_or l 2 0 ∷ get_or l 3 0 ∷ get_or l 4 0 ∷ get_or l 5 0 ∷ get_or l 6 0 ∷ get_or l 7 0 ∷ [] ≡ l
eight-words l e = ext_get_or 0 (get_or l 0 0 ∷ get_or l 1 0 ∷ get_or l 2 0 ∷ get_or l 3 0 ∷ get_or l 4 0 ∷ get_or l 5 0 ∷ get_or l 6 0 ∷ get_or l 7 0 ∷ []) l (sym e) at
  where
    at : (i : ℕ) → i < 8 → get_or (get_or l 0 0 ∷ get_or l 1 0 ∷ get_or l 2 0 ∷ get_or l 3 0 ∷ get_or l 4 0 ∷ get_or l 5 0 ∷ get_or l 6 0 ∷ get_or l 7 0 ∷ []) i 0 ≡ get_or l i 0
    at zero h = refl
    at (suc zero) h = refl
    at (suc (suc zero)) h = refl
    at (suc (suc (suc zero))) h = refl
    at (suc (suc (suc (suc zero)))) h = refl
    at (suc (suc (suc (suc (suc zero))))) h = refl
    at (suc (suc (suc (suc (suc (suc zero)))))) h = refl
    at (suc (suc (suc (suc (suc (suc (suc zero))))))) h = refl
    at (suc (suc (suc (suc (suc (suc (suc (suc i)))))))) h = absurd (omega arith)

-- Each word of the line bits.
pub words_back : WordsReadBack
words_back s i v eight =
    eight-words (set s.dirty i v) (length-set s.dirty i v ∙ eight) ∙ ap (λ (l : List ℕ). set l i v) (sym (eight-words s.dirty eight))

-- Numbers that are not used are 0.
zeros-back : (c n a v : ℕ) → unused n a v ≡ true → c ∷ 0 ∷ 0 ∷ 0 ∷ [] ≡ c ∷ n ∷ a ∷ v ∷ []
zeros-back c n a v fits =
    let rest = and_right (eqb n 0) (eqb a 0 && eqb v 0) fits in
    let n0 = eqb-true n 0 (and_left (eqb n 0) (eqb a 0 && eqb v 0) fits) in
    let a0 = eqb-true a 0 (and_left (eqb a 0) (eqb v 0) rest) in
    let v0 = eqb-true v 0 (and_right (eqb a 0) (eqb v 0) rest) in
    sym (ap (λ (x : ℕ). c ∷ x ∷ a ∷ v ∷ []) n0 ∙ ap (λ (x : ℕ). c ∷ 0 ∷ x ∷ v ∷ []) a0 ∙ ap (λ (x : ℕ). c ∷ 0 ∷ 0 ∷ x ∷ []) v0)

-- Each condition.
pub workers-back : WorkersReadBack
unfolding condition_fits condition_of
workers-back zero n a v fits = zeros-back 0 n a v fits
workers-back (suc zero) n a v fits = zeros-back 1 n a v fits
workers-back (suc (suc zero)) n a v fits =
    ap (λ (x : ℕ). 2 ∷ x ∷ a ∷ v ∷ []) (store-back n (leb-true n 2 (and_left (leb n 2) (leb a 65535) fits)))
workers-back (suc (suc (suc zero))) n a v fits = zeros-back 3 n a v fits
workers-back (suc (suc (suc (suc c)))) n a v fits = absurd (clash fits (no-condition (suc (suc (suc (suc c)))) n a v (omega arith)))

-- A digit of four bits as the holder that it means.
read-digit : (d : ℕ) → ℕ
read-digit d = cond (eqb d 0) 8 (d - 1)

read-suc : (h : ℕ) → read-digit (suc h) ≡ h
unfolding read-digit
read-suc h = passed_over (eqb (suc h) 0) 8 (suc h - 1) (ne_eqb (suc h) 0 (λ e. omega arith)) ∙ omega arith

-- Each lock's holder.
pub holders-back : HoldersReadBack
unfolding read-digit
holders-back holders k h fits =
    let most = leb-true h 8 (and_right (ltb k 16) (leb h 8) fits) in (
      split (eqb h 8)
          (λ t. ap (λ (x : ℕ). holder_number x k) (chosen (eqb h 8) (given_back holders k) (held_by holders k h) t) ∙ ap read-digit (digit-own holders k 0 (omega arith)) ∙ sym (eqb-true h 8 t))
          (λ t. ap (λ (x : ℕ). holder_number x k) (passed_over (eqb h 8) (given_back holders k) (held_by holders k h) t) ∙ ap read-digit (digit-own holders k (suc h) (omega arith)) ∙ read-suc h),
      λ j other.
          on (λ (x : ℕ). holder_number x j ≡ holder_number holders j) (eqb h 8) (given_back holders k) (held_by holders k h)
          (λ t. ap read-digit (digit-other holders k 0 j (omega arith) other))
          (λ t. ap read-digit (digit-other holders k (suc h) j (omega arith) other)),
    )
