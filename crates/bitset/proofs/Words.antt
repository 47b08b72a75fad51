-- Laws of a set in eight words.
use Prim.Native.Nat.{ℕ, zero, suc, ◌+◌, ◌-◌, ◌*◌, ◌/◌, ◌%◌, ◌≤◌, ◌<◌}
use mathlib.Core.Path.{◌≡◌, refl, sym, ap, ap₂, ◌∙◌}
use mathlib.Core.Bool.{Bool, true, false}
use mathlib.Core.List.{List, [], ◌∷◌}
use native.Mathlib.Omega.{arith}
use native.Mathlib.Decide.{dec_lt}
use native.Mathlib.Nat.{zero-add}
use lib.Dec.{eqb}
use lib.ListN.{length, drop, get_or, set, drop_of_length-le, length-set, get_or-replicate, get_or-eq_default}
use lib.Seq.{drop-cons, set_out, get_or-set_same, get_or-set_other}
use borrow.Author.Tests.{eqb-true, eqb-false, ne_eqb}
use Rattle.std.specs.List.{sum}
use Rattle.predicate.proofs.Bools.{split}
use Rattle.predicate.specs.Passing.{count_under, nth_under}
use Rattle.bitset.specs.Words.{bit_of, with_bit, bits_in, capacity, contains, inserted, empty, size, nth}
use Rattle.predicate.proofs.Passing.{one_on, one-off, count_most, count-alike, count-split, count-shift, nth_shifted, nth-shifted, nth-found, nth-unique}
use Rattle.bitset.proofs.Bits.{bit-zero, bits-count, with-own, with-other}

-- ---- a number that is put in

pub length_inserted : (words : List ℕ) (i : ℕ) → length (inserted words i) ≡ length words
unfolding inserted
length_inserted words i = length-set words (i / 64) _

pub contains-inserted : (words : List ℕ) (i : ℕ) → i / 64 < length words → contains (inserted words i) i ≡ true
unfolding contains inserted
contains-inserted words i h =
    ap (λ (w : ℕ). bit_of w (i % 64)) (get_or-set_same words (i / 64) (with_bit (get_or words (i / 64) 0) (i % 64)) 0 h)
    ∙ with-own (get_or words (i / 64) 0) (i % 64)

pub contains-other : (words : List ℕ) (i j : ℕ) → (j ≡ i → ⊥) → contains (inserted words i) j ≡ contains words j
unfolding contains inserted
contains-other words i j n =
    let put = with_bit (get_or words (i / 64) 0) (i % 64) in
    split (eqb (j / 64) (i / 64))
    (λ t.
    let same = eqb-true (j / 64) (i / 64) t in
    elim (dec_lt (i / 64) (length words)) [
      | yes h ↦
          ap (λ (k : ℕ). bit_of (get_or (set words (i / 64) put) k 0) (j % 64)) same
          ∙ ap (λ (w : ℕ). bit_of w (j % 64)) (get_or-set_same words (i / 64) put 0 h)
          ∙ with-other (get_or words (i / 64) 0) (i % 64) (j % 64) (λ e. n (omega arith))
          ∙ ap (λ (k : ℕ). bit_of (get_or words k 0) (j % 64)) (sym same)
      | no h ↦ ap (λ (l : List ℕ). bit_of (get_or l (j / 64) 0) (j % 64)) (set_out words (i / 64) put (omega arith))
    ])
    (λ t. ap (λ (w : ℕ). bit_of w (j % 64)) (get_or-set_other words (i / 64) (j / 64) put 0 (eqb-false (j / 64) (i / 64) t)))

-- ---- a set with nothing in it, and numbers that no set has

pub empty-contains : (i : ℕ) → contains empty i ≡ false
unfolding contains
empty-contains i =
    let none : get_or empty (i / 64) 0 ≡ 0 =
    elim (dec_lt (i / 64) 8) [ yes h ↦ get_or-replicate 8 (i / 64) 0 0 h | no h ↦ get_or-eq_default empty 0 (let l : 8 ≤ i / 64 = omega arith in l) ] in
    ap (λ (w : ℕ). bit_of w (i % 64)) none ∙ bit-zero (i % 64)

pub past_words : (words : List ℕ) (i : ℕ) → length words ≡ 8 → 512 ≤ i → contains words i ≡ false
unfolding contains
past_words words i e h =
    ap (λ (w : ℕ). bit_of w (i % 64)) (get_or-eq_default words 0 (let l : length words ≤ i / 64 = omega arith in l)) ∙ bit-zero (i % 64)

-- ---- word by word

-- The numbers that word `k` has bits for.
pub contains-word : (words : List ℕ) (k b : ℕ) → b < 64 → contains words (64 * k + b) ≡ bit_of (get_or words k 0) b
unfolding contains
contains-word words k b h =
    let word : (64 * k + b) / 64 ≡ k = omega arith in
    let bit : (64 * k + b) % 64 ≡ b = omega arith in
    ap₂ (λ (x y : ℕ). bit_of (get_or words x 0) y) word bit

-- How many numbers of the set word `k` has.
abbrev pub word_count : List ℕ → ℕ → ℕ
word_count words k = count_under 64 (bit_of (get_or words k 0))

-- One word more.
pub count_word : (words : List ℕ) (k : ℕ) → count_under (64 * (k + 1)) (contains words) ≡ count_under (64 * k) (contains words) + word_count words k
count_word words k =
    ap (λ (n : ℕ). count_under n (contains words)) (let e : 64 * (k + 1) ≡ 64 * k + 64 = omega arith in e)
    ∙ count-split (64 * k) 64 (contains words)
    ∙ ap (λ (x : ℕ). count_under (64 * k) (contains words) + x)
    (count-alike 64 (λ b. contains words (64 * k + b)) (bit_of (get_or words k 0)) (λ b h. contains-word words k b h))

-- The number with rank `left` in word `k`, where `p` less `left` numbers stand in the words before it.
pub nth-word : (words : List ℕ) (k left p : ℕ) → k < 8 → count_under (64 * k) (contains words) + left ≡ p → left < count_under 64 (bit_of (get_or words k 0))
    → 64 * k + nth_under 64 (bit_of (get_or words k 0)) left ≡ nth words p
unfolding nth
nth-word words k left p l e h =
    let q = nth_under 64 (bit_of (get_or words k 0)) left in
    let found = nth-found 64 (bit_of (get_or words k 0)) left h in
    let below : count_under q (λ b. contains words (64 * k + b)) ≡ count_under q (bit_of (get_or words k 0)) =
    count-alike q (λ b. contains words (64 * k + b)) (bit_of (get_or words k 0)) (λ b m. contains-word words k b (omega (arith, found.within))) in
    nth-unique 512 (contains words) p (64 * k + q)
    (record {
      passes = contains-word words k q found.within ∙ found.passes;
      rank = omega (arith, count-split (64 * k) q (contains words), found.rank);
      within = omega (arith, found.within);
    })

pub count-start : (f : ℕ → Bool) → count_under 0 f ≡ 0
unfolding count_under
count-start f = refl

-- ---- how many numbers the set has

-- They are counted word by word.
count-words : (words : List ℕ) →
    count_under capacity (contains words) ≡ word_count words 0 + word_count words 1 + word_count words 2 + word_count words 3 + word_count words 4 + word_count words 5 + word_count words 6 + word_count words 7
count-words words =
    let more : (k n : ℕ) → count_under (64 * k) (contains words) ≡ n → count_under (64 * (k + 1)) (contains words) ≡ n + word_count words k =
    λ k n e. count_word words k ∙ ap (λ (x : ℕ). x + word_count words k) e in
    more 7 _ (more 6 _ (more 5 _ (more 4 _ (more 3 _ (more 2 _ (more 1 _ (more 0 0 (count-start (contains words)) ∙ zero-add (word_count words 0))))))))

-- The size is the sum of the words' counts.
pub size-words : (words : List ℕ) →
    size words ≡ word_count words 0 + word_count words 1 + word_count words 2 + word_count words 3 + word_count words 4 + word_count words 5 + word_count words 6 + word_count words 7
unfolding size
size-words words =
    let bits : (k : ℕ) → bits_in 64 (get_or words k 0) ≡ word_count words k = λ k. bits-count 64 (get_or words k 0) in
    λ i. bits 0 i + bits 1 i + bits 2 i + bits 3 i + bits 4 i + bits 5 i + bits 6 i + bits 7 i

-- What stands from a place on: the word there, and what stands from the next on.
from_place : (l : List ℕ) (i : ℕ) {rest : List ℕ} → i < length l → rest ≡ drop (suc i) l → get_or l i 0 ∷ rest ≡ drop i l
from_place l i h e = ap (λ (r : List ℕ). get_or l i 0 ∷ r) e ∙ sym (drop-cons l i 0 h)

-- Eight words are those at the eight places.
eight-words : (l : List ℕ) → length l ≡ 8 → get_or l 0 0 ∷ get_or l 1 0 ∷ get_or l 2 0 ∷ get_or l 3 0 ∷ get_or l 4 0 ∷ get_or l 5 0 ∷ get_or l 6 0 ∷ get_or l 7 0 ∷ [] ≡ l
eight-words l h =
    from_place l 0 (omega arith) (from_place l 1 (omega arith) (from_place l 2 (omega arith) (from_place l 3 (omega arith)
    (from_place l 4 (omega arith) (from_place l 5 (omega arith) (from_place l 6 (omega arith) (from_place l 7 (omega arith)
    (sym (drop_of_length-le l {i = 8} (omega arith))))))))))

-- The counts of the eight words together are how many numbers the set has.
pub sum-counts : (counts words : List ℕ) → length counts ≡ 8 → ((k : ℕ) → k < 8 → get_or counts k 0 ≡ word_count words k) → sum counts ≡ size words
sum-counts counts words eight each =
    ap sum (sym (eight-words counts eight))
    ∙ omega (arith, size-words words, each 0 (omega arith), each 1 (omega arith), each 2 (omega arith), each 3 (omega arith), each 4 (omega arith), each 5 (omega arith), each 6 (omega arith), each 7 (omega arith))

-- And that is how many numbers are in it.
pub size-count : (words : List ℕ) → size words ≡ count_under capacity (contains words)
size-count words = size-words words ∙ sym (count-words words)

-- There are at most as many as there are bits.
pub size_room : (words : List ℕ) → size words ≤ capacity
size_room words = omega (arith, size-count words, count_most capacity (contains words))

-- ---- where there is no p-th number

none-shifted : (n : ℕ) (f : ℕ → Bool) (p : ℕ) → count_under n f ≤ p → nth_shifted n f p ≡ n
unfolding nth_shifted
none-shifted zero f p h = refl
none-shifted (suc n) f p h =
    split (f 0)
    (λ t. rw (t, ne_eqb p 0 (λ z. omega (arith, count-shift n f, one_on (f 0) t))) (ap suc (none-shifted n (λ i. f (suc i)) (p - 1) (omega (arith, count-shift n f, one_on (f 0) t)))))
    (λ t. rw t (ap suc (none-shifted n (λ i. f (suc i)) p (omega (arith, count-shift n f, one-off (f 0) t)))))

-- The search ends behind the last.
pub nth-none : (words : List ℕ) (p : ℕ) → size words ≤ p → nth words p ≡ capacity
unfolding nth
nth-none words p h = nth-shifted capacity (contains words) p ∙ none-shifted capacity (contains words) p (omega (arith, size-count words))
