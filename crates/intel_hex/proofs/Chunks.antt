-- A list cut into parts of one length.
use Prim.Native.Nat.{ℕ, zero, suc, ◌+◌, ◌*◌, ◌/◌, ◌<◌}
use mathlib.Core.Path.{◌≡◌, sym, ap, ◌∙◌}
use mathlib.Core.List.{List, []}
use native.Mathlib.Omega.{arith}
use native.Mathlib.Nat.{add_comm, mul-zero, mul-suc}
use lib.ListN.{length, get_or, take, drop}
use lib.Seq.{get_or-drop, get_or-take, drop-drop}
use Rattle.std.specs.Simd.{first_chunks}

-- Part `i`.
pub chunk_at : (n count : ℕ) (xs : List ℕ) (i : ℕ) (d : List ℕ) → i < count → get_or (first_chunks n count xs) i d ≡ take n (drop (n * i) xs)
chunk_at n zero xs i d h = absurd (omega arith)
chunk_at n (suc count) xs zero d h = ap (λ (k : ℕ). take n (drop k xs)) (sym (mul-zero n))
chunk_at n (suc count) xs (suc i) d h =
    chunk_at n count (drop n xs) i d (omega arith)
    ∙ ap (take n) (drop-drop (n * i) n xs ∙ ap (λ (k : ℕ). drop k xs) (sym (mul-suc n i ∙ add_comm (n * i) n)))

-- Its number `j`.
pub in_chunk : (n count : ℕ) (xs : List ℕ) (i j : ℕ) (d : List ℕ) → i < count → j < n → get_or (get_or (first_chunks n count xs) i d) j 0 ≡ get_or xs (n * i + j) 0
in_chunk n count xs i j d h g =
    ap (λ (l : List ℕ). get_or l j 0) (chunk_at n count xs i d h) ∙ get_or-take n (drop (n * i) xs) j 0 g ∙ get_or-drop (n * i) xs j 0

-- Both numbers of pair `i`.
pub pair_at : {pairs : List (List ℕ)} (xs : List ℕ) (i : ℕ) → pairs ≡ first_chunks 2 (length xs / 2) xs → i < length xs / 2 →
    (get_or (get_or pairs i []) 0 0 ≡ get_or xs (2 * i) 0) × (get_or (get_or pairs i []) 1 0 ≡ get_or xs (2 * i + 1) 0)
pair_at xs i e h =
    let zero : 2 * i + 0 ≡ 2 * i = omega arith in (
      ap (λ l. get_or (get_or l i []) 0 0) e ∙ in_chunk 2 (length xs / 2) xs i 0 [] h (omega arith) ∙ ap (λ (k : ℕ). get_or xs k 0) zero,
      ap (λ l. get_or (get_or l i []) 1 0) e ∙ in_chunk 2 (length xs / 2) xs i 1 [] h (omega arith),
    )
