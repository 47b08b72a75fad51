-- The fault program's `W m c`, `M i v` and `N i v`: rows made longer or shorter, and words of a row.
use Rattle.std.specs.Prelude.{◌≡◌, ℕ, ◌-◌, Bool, cond, List, ◌++◌, length, take, replicate, nat_lt, slice_set}

-- "words that stay keep their contents, new ones are 0".
abbrev pub resized : List ℕ → ℕ → List ℕ
resized row n = take n row ++ replicate (n - length row) 0

-- "i the row's length or more: `?`".
abbrev pub word_fits : List ℕ → ℕ → Bool
word_fits row i = nat_lt i (length row)

-- "word i := v", where it can be put.
abbrev pub stored_if : Bool → List ℕ → ℕ → ℕ → List ℕ
stored_if fits row i v = cond fits (slice_set row i v) row

-- ---- what contracts say

-- A word was put into a row if it can be, and `put` says whether.
pub record Stored (fits : Bool) (row : List ℕ) (i v : ℕ) (put : Bool) (after : List ℕ) : Type 0 where
  pub told : put ≡ fits
  pub leaves : after ≡ stored_if fits row i v
