-- The first words of a row: what the whole is once they come back, or are all one number.
use Prim.Native.Nat.{ℕ, ◌+◌, ◌-◌, ◌≤◌}
use mathlib.Core.Path.{◌≡◌, sym, ap, ◌∙◌}
use mathlib.Core.List.{List, ◌++◌}
use native.Mathlib.Omega.{arith}
use lib.ListN.{length, take, drop, replicate, length-replicate, replicate-append-replicate}
use lib.Seq.{length-take-le, take_at}

-- A part of `n` words has `n` words.
pub part-size : (n : ℕ) (row : List ℕ) → n ≤ length row → n ≡ length (take n row)
part-size n row h = sym (length-take-le n row h)

-- A part that comes back as long as it was stands where it was.
pub part-back : (n : ℕ) (row part : List ℕ) → n ≤ length row → length part ≡ length (take n row) → take n (part ++ drop n row) ≡ part
part-back n row part h e = take_at part (drop n row) n (e ∙ length-take-le n row h)

-- The first of equal words are equal words.
pub take-replicate : (n k v : ℕ) → n ≤ k → take n (replicate k v) ≡ replicate n v
take-replicate n k v h =
    let size : n + (k - n) ≡ k = omega arith in
    ap (λ (j : ℕ). take n (replicate j v)) (sym size)
    ∙ ap (take n) (sym (replicate-append-replicate n (k - n) v))
    ∙ take_at (replicate n v) (replicate (k - n) v) n (length-replicate n v)
