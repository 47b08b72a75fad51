-- What a text reads to, record by record, and the laws of the bytes that its characters write.
use Prim.Native.Nat.{ℕ, zero, suc, ◌+◌, ◌*◌, ◌-◌, ◌%◌, ◌≤◌, ◌<◌}
use mathlib.Core.Path.{◌≡◌, refl, sym, ap, ◌∙◌}
use mathlib.Core.List.{List, [], ◌∷◌}
use mathlib.Core.Bool.{true, false, cond, ◌&&◌, true≢false}
use native.Mathlib.Omega.{arith}
use lib.Dec.{eqb}
use lib.ListN.{length, get_or, take, drop, length-drop}
use lib.Seq.{get_or-drop, get_or-take, drop-drop, take_all, ext_get_or}
use borrow.Author.Tests.{eqb-true}
use Rattle.predicate.proofs.Bools.{chosen, passed_over, and_right}
use Rattle.text.specs.Ascii.{feed, ':'}
use Rattle.board.specs.Hex.{Parsed, no_file, file, in_front, byte_of, bytes_in, all_bytes, sum_of, count_of, bytes_of, data_of, record_length, has_record, has_data, has_end, parsed_from}
use Rattle.board.specs.Hex.{is_no_file, read_bytes}

-- ---- the bytes that characters write

-- There are as many as asked for.
pub in-length : (n : ℕ) (text : List ℕ) → length (bytes_in n text) ≡ n
unfolding bytes_in
in-length zero text = refl
in-length (suc n) text = ap suc (in-length n (drop 2 text))

-- Byte `k` of them.
pub in-at : (n : ℕ) (text : List ℕ) (k : ℕ) → k < n → get_or (bytes_in n text) k 0 ≡ byte_of (get_or text (2 * k) 0) (get_or text (2 * k + 1) 0)
unfolding bytes_in
in-at zero text k h = absurd (omega arith)
in-at (suc n) text zero h = refl
in-at (suc n) text (suc k) h =
    let high : 2 + 2 * k ≡ 2 * suc k = omega arith in
    let low : 2 + (2 * k + 1) ≡ 2 * suc k + 1 = omega arith in
    in-at n (drop 2 text) k (omega arith)
    ∙ ap (λ (x : ℕ). byte_of x (get_or (drop 2 text) (2 * k + 1) 0)) (get_or-drop 2 text (2 * k) 0 ∙ ap (λ (i : ℕ). get_or text i 0) high)
    ∙ ap (λ (y : ℕ). byte_of (get_or text (2 * suc k) 0) y) (get_or-drop 2 text (2 * k + 1) 0 ∙ ap (λ (i : ℕ). get_or text i 0) low)

-- The first byte and the others, from character 2k on.
pub in-next : (n : ℕ) (text : List ℕ) (k : ℕ) →
    bytes_in (suc n) (drop (2 * k) text) ≡ byte_of (get_or text (2 * k) 0) (get_or text (2 * k + 1) 0) ∷ bytes_in n (drop (2 * (k + 1)) text)
unfolding bytes_in
in-next n text k =
    let here : 2 * k + 0 ≡ 2 * k = omega arith in
    let past : 2 * k + 2 ≡ 2 * (k + 1) = omega arith in
    ap (λ (x : ℕ). byte_of x (get_or (drop (2 * k) text) 1 0) ∷ bytes_in n (drop 2 (drop (2 * k) text))) (get_or-drop (2 * k) text 0 0 ∙ ap (λ (i : ℕ). get_or text i 0) here)
    ∙ ap (λ (y : ℕ). byte_of (get_or text (2 * k) 0) y ∷ bytes_in n (drop 2 (drop (2 * k) text))) (get_or-drop (2 * k) text 1 0)
    ∙ ap (λ (t : List ℕ). byte_of (get_or text (2 * k) 0) (get_or text (2 * k + 1) 0) ∷ bytes_in n t) (drop-drop 2 (2 * k) text ∙ ap (λ (i : ℕ). drop i text) past)

-- Bytes of a text that ends behind their characters.
pub in-take : (n : ℕ) (text : List ℕ) → bytes_in n (take (2 * n) text) ≡ bytes_in n text
in-take n text =
    ext_get_or 0 (bytes_in n (take (2 * n) text)) (bytes_in n text) (in-length n (take (2 * n) text) ∙ sym (in-length n text)) (λ k h.
    let low : k < n = omega (arith, in-length n (take (2 * n) text)) in
    in-at n (take (2 * n) text) k low
    ∙ (λ i. byte_of (get_or-take (2 * n) text (2 * k) 0 (omega arith) i) (get_or-take (2 * n) text (2 * k + 1) 0 (omega arith) i))
    ∙ sym (in-at n text k low))

-- What is lent of a text from character `n` on.
pub tail : (n : ℕ) (text : List ℕ) → take (length text - n) (drop n text) ≡ drop n text
tail n text = take_all (length text - n) (drop n text) (omega (arith, length-drop n text))

-- ---- a record is within its text

-- A number that is not 0 stands within its list.
within : (l : List ℕ) (i v : ℕ) → get_or l i 0 ≡ v → 0 < v → i < length l
within [] i v e h = absurd (omega arith)
within (a ∷ l) zero v e h = omega arith
within (a ∷ l) (suc i) v e h = omega (arith, within l i v e h)

-- The line feed at its end.
pub record-end : (text : List ℕ) → has_record text ≡ true → get_or text (2 * count_of text + 11) 0 ≡ feed
unfolding has_record
record-end text e =
    let front = eqb (get_or text 0 0) ':' && all_bytes (bytes_of text) && eqb (sum_of (bytes_of text) % 256) 0 in
    eqb-true (get_or text (2 * count_of text + 11) 0) feed (and_right front (eqb (get_or text (2 * count_of text + 11) 0) feed) e)

-- It is within its text.
pub record-within : (text : List ℕ) → has_record text ≡ true → record_length text ≤ length text
record-within text e =
    let h = within text (2 * count_of text + 11) feed (record-end text e) (omega arith) in omega arith

-- ---- what a text reads to

-- What a text reads to from `address` on, with as many records as it has characters.
abbrev pub reads_to : ℕ → List ℕ → Parsed
reads_to address text = parsed_from (length text) address text

-- Nothing is read from nothing.
nothing : (most address : ℕ) → parsed_from most address [] ≡ no_file
unfolding parsed_from has_end has_data has_record
nothing zero address = refl
nothing (suc most) address = refl

-- A list of no length is empty.
none_left : (t : List ℕ) → length t ≤ 0 → t ≡ []
none_left [] h = refl
none_left (c ∷ t) h = absurd (omega arith)

-- A bound that is not below the text's length does not matter.
enough : (m n address : ℕ) (t : List ℕ) → length t ≤ m → length t ≤ n → parsed_from m address t ≡ parsed_from n address t
unfolding parsed_from
enough zero n address t h g = ap (parsed_from 0 address) (none_left t h) ∙ nothing 0 address ∙ sym (nothing n address) ∙ ap (parsed_from n address) (sym (none_left t h))
enough (suc m) zero address t h g = ap (parsed_from (suc m) address) (none_left t g) ∙ nothing (suc m) address ∙ sym (nothing 0 address) ∙ ap (parsed_from 0 address) (sym (none_left t g))
enough (suc m) (suc n) address t h g =
    let k = record_length t in
    ap (λ (p : Parsed). cond (has_end t) (file []) (cond (has_data address t) (in_front (data_of t) p) no_file))
    (enough m n (address + count_of t) (drop k t) (omega (arith, length-drop k t)) (omega (arith, length-drop k t)))

-- One record more.
opened : (address : ℕ) (text : List ℕ) → reads_to address text ≡
    cond (has_end text) (file []) (cond (has_data address text) (in_front (data_of text) (reads_to (address + count_of text) (drop (record_length text) text))) no_file)
unfolding parsed_from has_end has_data has_record
opened address [] = refl
opened address (c ∷ text) =
    let t = c ∷ text in
    let k = record_length t in
    ap (λ (p : Parsed). cond (has_end t) (file []) (cond (has_data address t) (in_front (data_of t) p) no_file))
    (enough (length text) (length (drop k t)) (address + count_of t) (drop k t) (omega (arith, length-drop k t)) (omega arith))

-- The end record ends it.
pub reads_end : (address : ℕ) (text : List ℕ) → has_end text ≡ true → reads_to address text ≡ file []
reads_end address text e = opened address text ∙ chosen (has_end text) _ _ e

-- A data record's bytes come before what follows.
pub reads-data : (address : ℕ) (text : List ℕ) → has_end text ≡ false → has_data address text ≡ true →
    reads_to address text ≡ in_front (data_of text) (reads_to (address + count_of text) (drop (record_length text) text))
reads-data address text e d = opened address text ∙ passed_over (has_end text) _ _ e ∙ chosen (has_data address text) _ _ d

-- What is a file reads to its bytes.
pub is-file : (p : Parsed) → is_no_file p ≡ false → p ≡ file (read_bytes p)
is-file no_file e = absurd (true≢false e)
is-file (file bytes) e = refl

-- With neither it is no file.
pub reads_none : (address : ℕ) (text : List ℕ) → has_end text ≡ false → has_data address text ≡ false → reads_to address text ≡ no_file
reads_none address text e d = opened address text ∙ passed_over (has_end text) _ _ e ∙ passed_over (has_data address text) _ _ d
