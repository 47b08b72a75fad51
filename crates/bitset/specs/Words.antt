-- A set of numbers below 512, a bit each, in eight words, "64 lines a word, the lowest bit first" (document 02, ticket 5).
use Rattle.std.specs.Prelude.{ℕ, zero, suc, ◌+◌, ◌-◌, ◌*◌, ◌/◌, ◌%◌, ◌^◌, Bool, cond, ◌||◌, List, ltb, eqb, get_or, set, replicate}
use Rattle.predicate.specs.Passing.{any_under, nth_under}

-- Bit `b` of a word is set.
unfoldable pub bit_of : ℕ → ℕ → Bool
bit_of word b = eqb (word / 2 ^ b % 2) 1

-- The word with bit `b` set, which it may have been.
unfoldable pub with_bit : ℕ → ℕ → ℕ
with_bit word b = cond (bit_of word b) word (word + 2 ^ b)

-- How many of a word's `d` lowest bits are set, the lowest looked at first.
unfoldable pub bits_in : ℕ → ℕ → ℕ
bits_in zero word = 0
bits_in (suc d) zero = 0
bits_in (suc d) (suc n) = suc n % 2 + bits_in d (suc n / 2)

-- How many numbers eight words have a bit for.
abbrev pub capacity : ℕ
capacity = 512

-- The empty set.
abbrev pub empty : List ℕ
empty = replicate 8 0

-- Number `i` is in the set: bit i mod 64 of word i div 64.
unfoldable pub contains : List ℕ → ℕ → Bool
contains words i = bit_of (get_or words (i / 64) 0) (i % 64)

-- The set with number `i`, which it may have had.
unfoldable pub inserted : List ℕ → ℕ → List ℕ
inserted words i = set words (i / 64) (with_bit (get_or words (i / 64) 0) (i % 64))

-- How many numbers the set has: the set bits of its eight words.
unfoldable pub size : List ℕ → ℕ
size words =
    bits_in 64 (get_or words 0 0) + bits_in 64 (get_or words 1 0) + bits_in 64 (get_or words 2 0) + bits_in 64 (get_or words 3 0)
    + bits_in 64 (get_or words 4 0) + bits_in 64 (get_or words 5 0) + bits_in 64 (get_or words 6 0) + bits_in 64 (get_or words 7 0)

-- Its p-th number, from 0, rising: by search from 0 up.
unfoldable pub nth : List ℕ → ℕ → ℕ
nth words p = nth_under capacity (contains words) p

-- It has 0, or a number past `last`: of some word the bits from number last + 1 on are not all clear.
unfoldable pub strays : List ℕ → ℕ → Bool
strays words last = bit_of (get_or words 0 0) 0 || any_under 8 (λ k. ltb 0 (get_or words k 0 / 2 ^ (last + 1 - 64 * k)))
