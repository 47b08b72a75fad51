-- Document 02, ticket 6: the holders of 16 locks in one word, four bits a lock, lock 0 the lowest: 0 where nobody holds the lock, else the number of the worker that does and 1.
use Rattle.std.specs.Prelude.{ℕ, suc, ◌+◌, ◌-◌, ◌*◌, ◌/◌, ◌%◌, ◌^◌, Bool, ltb, eqb}
use Rattle.predicate.specs.Passing.{any_under}

-- "Of 16 locks".
abbrev pub lock_count : ℕ
lock_count = 16

-- Nobody holds a lock.
abbrev pub all_unheld : ℕ
all_unheld = 0

-- The four bits of lock `k`.
unfoldable pub digit_of : ℕ → ℕ → ℕ
digit_of holders k = holders / 16 ^ k % 16

-- Nobody holds lock `k`.
unfoldable pub unheld : ℕ → ℕ → Bool
unheld holders k = eqb (digit_of holders k) 0

-- Worker `w` holds lock `k`.
unfoldable pub holds : ℕ → ℕ → ℕ → Bool
holds holders w k = eqb (digit_of holders k) (suc w)

-- Worker `w` holds a lock.
unfoldable pub holds_any : ℕ → ℕ → Bool
holds_any holders w = any_under lock_count (holds holders w)

-- A lock is held by worker `w` or one past it.
unfoldable pub held_from : ℕ → ℕ → Bool
held_from holders w = any_under lock_count (λ k. ltb w (digit_of holders k))

-- The word with other bits for lock `k`.
unfoldable pub with_digit : ℕ → ℕ → ℕ → ℕ
with_digit holders k digit = holders - digit_of holders k * 16 ^ k + digit * 16 ^ k

-- Lock `k` held by worker `w`, the other locks as they were.
abbrev pub held_by : ℕ → ℕ → ℕ → ℕ
held_by holders k w = with_digit holders k (suc w)

-- Lock `k` held by nobody, the other locks as they were.
abbrev pub given_back : ℕ → ℕ → ℕ
given_back holders k = with_digit holders k 0
