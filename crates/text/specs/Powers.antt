-- Document 02, ticket 3, "a table of the powers of ten, 1 to 10^19".
use Rattle.std.specs.Prelude.{◌≡◌, ℕ, suc, ◌*◌, ◌%◌, ◌^◌, ◌<◌, ◌≤◌, List, length, slice_index, slice_index_or}

-- "each entry .. ten times the one before": twenty entries, the first of them 1.
pub record PowersOfTen (table : List ℕ) : Type 0 where
  pub size : length table ≡ 20
  pub first : slice_index_or table 0 0 ≡ 1
  pub next : (k : ℕ) → suc k < length table → slice_index table (suc k) ≡ 10 * slice_index table k

-- The rule leaves no choice: the entry at place `k` is 10^k.
pub record PowersHold : Type 0 where
  pub entries : (table : List ℕ) → PowersOfTen table → (k : ℕ) → k < 20 → slice_index table k ≡ 10 ^ k

-- What a run of digits asks: at most nineteen places, units that 64 bits hold eight times, the last unit and the number multiples
-- of 16, and no digit before the first place.
pub record Runs (from to scale s : ℕ) : Type 0 where
  pub last : to ≤ from
  pub first : from ≤ 19
  pub room : scale * 10 ^ from ≤ 10 ^ 19
  pub unit : scale * 10 ^ to % 16 ≡ 0
  pub number : s % 16 ≡ 0
  pub under : s < scale * 10 ^ from
