-- The numbers that pass a test: whether there is one, how many there are, which is the p-th, and all of them, rising.
use Rattle.std.specs.Prelude.{ℕ, zero, suc, ◌+◌, ◌-◌, List, [], ◌∷◌, ◌++◌, Bool, false, cond, ◌&&◌, ◌||◌, eqb}

-- Some number below `n` passes the test.
unfoldable pub any_under : ℕ → (ℕ → Bool) → Bool
any_under zero test = false
any_under (suc n) test = any_under n test || test n

-- How many numbers below `n` pass the test.
unfoldable pub count_under : ℕ → (ℕ → Bool) → ℕ
count_under zero test = 0
count_under (suc n) test = count_under n test + cond (test n) 1 0

-- The p-th number, counted from 0, that passes the test, searched for from `i` up among `left` numbers; the number behind them where there is none.
unfoldable pub nth_from : (ℕ → Bool) → ℕ → ℕ → ℕ → ℕ
nth_from test zero i p = i
nth_from test (suc left) i p = cond (test i && eqb p 0) i (nth_from test left (suc i) (cond (test i) (p - 1) p))

-- The same below `n`, from 0 up.
unfoldable pub nth_under : ℕ → (ℕ → Bool) → ℕ → ℕ
nth_under n test p = nth_from test n 0 p

-- The numbers below `n`, rising.
unfoldable pub numbers_under : ℕ → List ℕ
numbers_under zero = []
numbers_under (suc n) = numbers_under n ++ (n ∷ [])

-- The numbers of a list that pass the test, in their order.
unfoldable pub passing : (ℕ → Bool) → List ℕ → List ℕ
passing test [] = []
passing test (i ∷ is) = cond (test i) (i ∷ passing test is) (passing test is)
