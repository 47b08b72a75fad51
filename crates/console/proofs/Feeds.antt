-- Where a line ends, and what is kept of a line that goes on.
use Rattle.std.proofs.Common.{◌≡◌, ℕ, zero, suc, ◌+◌, ◌-◌, ◌<◌, ◌≤◌, Bool, true, not, ◌&&◌, eqb, List, ◌++◌, length, get_or, take, drop, sym, ap, ◌∙◌, append_assoc, arith, drop_of_length-le, length-take-le, drop-cons, drop-drop, eq-eqb, ne_eqb}
use lib.Seq.{take-append-add}
use borrow.Rule.Slice.PartMut.{put_mid}
use Rattle.predicate.proofs.Bools.{clash, and_left, and_right, not-of}
use Rattle.console.specs.Bytes.{index_of, index_after}
use Rattle.text.specs.Ascii.{feed}
use Rattle.text.specs.Writing.{put}
use Rattle.text.proofs.Writing.{put_front}

-- At a line feed the line is over.
pub feed-here : (s : List ℕ) (i : ℕ) → i < length s → get_or s i 0 ≡ feed → index_of feed (drop i s) ≡ 0
unfolding index_of index_after
feed-here s i h e =
    ap (index_of feed) (drop-cons s i 0 h) ∙ ap (λ (t : Bool). index_after t (index_of feed (drop (suc i) s))) (eq-eqb (get_or s i 0) feed e)

-- At any other byte it goes on.
pub feed-later : (s : List ℕ) (i : ℕ) → i < length s → (get_or s i 0 ≡ feed → ⊥) → index_of feed (drop i s) ≡ suc (index_of feed (drop (suc i) s))
unfolding index_of index_after
feed-later s i h e =
    ap (index_of feed) (drop-cons s i 0 h) ∙ ap (λ (t : Bool). index_after t (index_of feed (drop (suc i) s))) (ne_eqb (get_or s i 0) feed e)

-- At the text's end it is over.
pub feed-end : (s : List ℕ) (i : ℕ) → length s ≤ i → index_of feed (drop i s) ≡ 0
unfolding index_of
feed-end s i h = ap (index_of feed) (drop_of_length-le s h)

-- Neither the byte at `i` nor one of the `n` after it is a line feed.
unfoldable pub quiet_for : List ℕ → ℕ → ℕ → Bool
quiet_for s i zero = not (eqb (get_or s i 0) feed)
quiet_for s i (suc n) = quiet_for s i n && not (eqb (get_or s (i + suc n) 0) feed)

-- A byte that is no line feed, by the test.
other : (s : List ℕ) (i : ℕ) → not (eqb (get_or s i 0) feed) ≡ true → get_or s i 0 ≡ feed → ⊥
other s i t e = clash (eq-eqb (get_or s i 0) feed e) (not-of (eqb (get_or s i 0) feed) t)

-- Over such bytes the line goes on.
pub quiet-later : (s : List ℕ) (i n : ℕ) → i + n < length s → quiet_for s i n ≡ true → index_of feed (drop i s) ≡ suc n + index_of feed (drop (i + suc n) s)
unfolding quiet_for
quiet-later s i zero h t =
    let next : i + 1 ≡ suc i = omega arith in
    omega (arith, feed-later s i (omega arith) (other s i t), ap (λ (k : ℕ). index_of feed (drop k s)) next)
quiet-later s i (suc n) h t =
    let fewer = and_left (quiet_for s i n) (not (eqb (get_or s (i + suc n) 0) feed)) t in
    let byte = and_right (quiet_for s i n) (not (eqb (get_or s (i + suc n) 0) feed)) t in
    let next : i + suc (suc n) ≡ suc (i + suc n) = omega arith in
    let further = feed-later s (i + suc n) (omega arith) (other s (i + suc n) byte) in
    omega (arith, quiet-later s i n (omega arith) fewer, further, ap (λ (k : ℕ). index_of feed (drop k s)) next)

-- ---- what is kept of a line

-- A text copied over as many bytes behind `at` is the text written there.
pub copied : (row : List ℕ) (at n : ℕ) (text last : List ℕ) → n ≡ length text → last ≡ text → put_mid at (at + n - at) row last ≡ put row at text
copied row at n text last e same =
    let width : at + n - at ≡ length text = omega (arith, e) in
    ap (λ (k : ℕ). take at row ++ (last ++ drop k (drop at row))) width
    ∙ ap (λ (t : List ℕ). take at row ++ (t ++ drop (length text) (drop at row))) same
    ∙ ap (λ (t : List ℕ). take at row ++ (text ++ t)) (drop-drop (length text) at row)
    ∙ sym (append_assoc (take at row) text (drop (at + length text) row))

-- The first `n` bytes of `more`, put behind the bytes kept, are all of it that is kept.
pub kept_line : (line more after : List ℕ) (begun n end : ℕ) → length line ≡ 80 → begun + n ≤ 80 → n ≤ length more →
    take n more ≡ take (80 - begun) more → end ≡ begun + n → after ≡ put line begun (take n more) →
    take end after ≡ take 80 (take begun line ++ more)
kept_line line more after begun n end size fits within all e p =
    let front = take begun line in
    let width : length (take n more) ≡ n = length-take-le n more within in
    let start : length front ≡ begun = length-take-le begun line (omega arith) in
    let room : length front + (80 - begun) ≡ 80 = omega arith in
    put_front (record { ends = e ∙ ap (λ (k : ℕ). begun + k) (sym width); holds = p }) (omega arith)
    ∙ ap (λ (t : List ℕ). front ++ t) all
    ∙ sym (take-append-add front more (80 - begun))
    ∙ ap (λ (k : ℕ). take k (front ++ more)) room
