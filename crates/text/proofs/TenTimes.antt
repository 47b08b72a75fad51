-- The rule of the table of the powers of ten, for all its entries at once.
use Rattle.std.proofs.Common.{◌≡◌, ℕ, zero, suc, ◌*◌, ◌^◌, ◌<◌, Bool, true, ◌&&◌, eqb, List, [], ◌∷◌, length, get_or, ◌∙◌, pow-suc, arith, eqb-true}
use Rattle.text.specs.Powers.{PowersOfTen}
use Rattle.predicate.proofs.Bools.{and_left, and_right}

-- The test that is computed over a whole table: each entry is ten times the one before.
unfoldable pub tenfold : List ℕ → Bool
tenfold [] = true
tenfold (x ∷ []) = true
tenfold (x ∷ y ∷ rest) = eqb y (10 * x) && tenfold (y ∷ rest)

-- A table that passes it has the rule at each entry.
tenfold-next : (table : List ℕ) → tenfold table ≡ true → (k : ℕ) → suc k < length table → get_or table (suc k) 0 ≡ 10 * get_or table k 0
unfolding tenfold
tenfold-next [] t k h = absurd (omega arith)
tenfold-next (x ∷ []) t k h = absurd (omega arith)
tenfold-next (x ∷ y ∷ rest) t zero h = eqb-true y (10 * x) (and_left (eqb y (10 * x)) (tenfold (y ∷ rest)) t)
tenfold-next (x ∷ y ∷ rest) t (suc k) h = tenfold-next (y ∷ rest) (and_right (eqb y (10 * x)) (tenfold (y ∷ rest)) t) k (omega arith)

-- A table of twenty entries that begins with 1 and passes it is that of the powers of ten.
pub is-table : {table : List ℕ} → length table ≡ 20 → get_or table 0 0 ≡ 1 → tenfold table ≡ true → PowersOfTen table
is-table {table} size first t = record { size = size; first = first; next = tenfold-next table t }

-- An entry is the power of ten of its place.
pub power_at : {table : List ℕ} → PowersOfTen table → (k : ℕ) → k < 20 → get_or table k 0 ≡ 10 ^ k
power_at p zero h = p.first
power_at p (suc k) h = p.next k (omega (arith, p.size)) ∙ omega (arith, power_at p k (omega arith), pow-suc 10 k)
