-- Checksums of numbers one after the other.
use Rattle.std.proofs.Common.{◌≡◌, ℕ, List, [], ◌∷◌, ◌++◌, length, get_or, sym, refl, ◌∙◌, arith}
use Rattle.std.specs.List.{fold, range_with_len}
use Rattle.board.specs.declared.State.{State}
use Rattle.board.specs.declared.Worker.{Worker}
use Rattle.board.specs.Board.{Board}
use Rattle.board.specs.State.{free_worker}
use Rattle.damage.specs.Checksum.{mixed, summed, field_numbers, condition_numbers, worker_numbers, workers_numbers, dirty_numbers, holder_number, holders_numbers, row_numbers, checksum}

-- Numbers in two parts.
pub summed-append : (h : ℕ) (xs ys : List ℕ) → summed h (xs ++ ys) ≡ summed (summed h xs) ys
unfolding summed
summed-append h [] ys = refl
summed-append h (x ∷ xs) ys = summed-append (mixed h x) xs ys

-- Numbers folded one after the other.
pub fold-summed : (h : ℕ) (xs : List ℕ) → fold mixed h xs ≡ summed h xs
unfolding summed
fold-summed h [] = refl
fold-summed h (x ∷ xs) = fold-summed (mixed h x) xs

-- Six parts.
six-parts : (h : ℕ) (a b c d e f : List ℕ) → summed h (a ++ b ++ c ++ d ++ e ++ f) ≡ summed (summed (summed (summed (summed (summed h a) b) c) d) e) f
six-parts h a b c d e f = simp summed-append

-- Eight parts.
pub eight-parts : (h : ℕ) (a b c d e f g i : List ℕ) →
    summed h (a ++ b ++ c ++ d ++ e ++ f ++ g ++ i) ≡ summed (summed (summed (summed (summed (summed (summed (summed h a) b) c) d) e) f) g) i
eight-parts h a b c d e f g i = simp summed-append

-- A worker's numbers more.
abbrev pub with_worker : ℕ → Worker → ℕ
with_worker h w = summed h (condition_numbers w.condition)

-- Eight workers folded one after the other.
fold-eight : (l : List Worker) (d : Worker) (h : ℕ) → length l ≡ 8 → fold with_worker h l ≡
    with_worker (with_worker (with_worker (with_worker (with_worker (with_worker (with_worker (with_worker h (get_or l 0 d)) (get_or l 1 d)) (get_or l 2 d)) (get_or l 3 d)) (get_or l 4 d)) (get_or l 5 d)) (get_or l 6 d)) (get_or l 7 d)
fold-eight [] z h n = absurd (omega arith)
fold-eight (a ∷ []) z h n = absurd (omega arith)
fold-eight (a ∷ b ∷ []) z h n = absurd (omega arith)
fold-eight (a ∷ b ∷ c ∷ []) z h n = absurd (omega arith)
fold-eight (a ∷ b ∷ c ∷ d ∷ []) z h n = absurd (omega arith)
fold-eight (a ∷ b ∷ c ∷ d ∷ e ∷ []) z h n = absurd (omega arith)
fold-eight (a ∷ b ∷ c ∷ d ∷ e ∷ f ∷ []) z h n = absurd (omega arith)
fold-eight (a ∷ b ∷ c ∷ d ∷ e ∷ f ∷ g ∷ []) z h n = absurd (omega arith)
fold-eight (a ∷ b ∷ c ∷ d ∷ e ∷ f ∷ g ∷ i ∷ []) z h n = refl
fold-eight (a ∷ b ∷ c ∷ d ∷ e ∷ f ∷ g ∷ i ∷ j ∷ more) z h n = absurd (omega arith)

pub workers-folded : (h : ℕ) (s : State) → length s.worker ≡ 8 → fold with_worker h s.worker ≡ summed h (workers_numbers s)
unfolding workers_numbers
workers-folded h s n =
    fold-eight s.worker free_worker h n
    ∙ sym (eight-parts h (worker_numbers s 0) (worker_numbers s 1) (worker_numbers s 2) (worker_numbers s 3) (worker_numbers s 4) (worker_numbers s 5) (worker_numbers s 6) (worker_numbers s 7))

-- The sixteen holders folded one after the other.
pub holders-folded : (h : ℕ) (s : State) → fold (λ a k. mixed a (holder_number s.holders k)) h (range_with_len 0 16) ≡ summed h (holders_numbers s)
unfolding summed holders_numbers
holders-folded h s = refl

-- Everything, part by part.
pub checksum-parts : (b : Board) →
    checksum b ≡ summed (summed (summed (summed (summed (summed 14695981039346656037 (field_numbers b.state)) (workers_numbers b.state)) (dirty_numbers b.state)) (holders_numbers b.state)) (row_numbers b.memory)) (row_numbers b.cache)
unfolding checksum
checksum-parts b =
    six-parts 14695981039346656037 (field_numbers b.state) (workers_numbers b.state) (dirty_numbers b.state) (holders_numbers b.state) (row_numbers b.memory) (row_numbers b.cache)
