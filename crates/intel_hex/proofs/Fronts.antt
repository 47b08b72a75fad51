-- What stands at a text's front.
use Prim.Native.Nat.{ℕ, zero, suc, ◌+◌, ◌*◌, ◌%◌, ◌≤◌, ◌<◌}
use mathlib.Core.Path.{◌≡◌, refl, sym, ap, ◌∙◌}
use mathlib.Core.List.{List, [], ◌∷◌}
use mathlib.Core.Bool.{Bool, true, false, ◌&&◌}
use native.Mathlib.Omega.{arith}
use lib.Dec.{eqb, ltb}
use lib.ListN.{length, get_or, drop, length-drop}
use lib.Seq.{get_or-drop, length-take-le}
use borrow.Author.Tests.{eqb-true, ltb-true, eq-eqb}
use Rattle.predicate.proofs.Bools.{chosen, passed_over, split, clash, and_left, and_right}
use Rattle.text.specs.Ascii.{feed, ':'}
use Rattle.board.specs.Hex.{byte_of, all_bytes, sum_of, count_of, bytes_of, address_of, type_of, data_of, has_record, has_data, has_end}
use Rattle.std.specs.Prelude.{Some, None}
use Rattle.intel_hex.specs.declared.reading.Record.{Record}
use Rattle.intel_hex.specs.Storing.{front_of}
use Rattle.intel_hex.proofs.Parsing.{in-at, in-length, record-end, record-within}

-- A test and one that holds.
and-true : (a : Bool) → a && true ≡ a
and-true true = refl
and-true false = refl

-- Of numbers that all are bytes each is one.
pub all-at : (l : List ℕ) (i : ℕ) → all_bytes l ≡ true → i < length l → get_or l i 0 < 256
unfolding all_bytes
all-at [] i e h = absurd (omega arith)
all-at (b ∷ l) zero e h = ltb-true b 256 (and_left (ltb b 256) (all_bytes l) e)
all-at (b ∷ l) (suc i) e h = all-at l i (and_right (ltb b 256) (all_bytes l) e) (omega arith)

module _ (text : List ℕ) where
  -- Byte `k` of the record at the text's front, of the first five.
  front-byte : (k : ℕ) → k < 5 → get_or (bytes_of text) k 0 ≡ byte_of (get_or text (2 * k + 1) 0) (get_or text (2 * k + 2) 0)
  front-byte k h =
      let high : 1 + 2 * k ≡ 2 * k + 1 = omega arith in
      let low : 1 + (2 * k + 1) ≡ 2 * k + 2 = omega arith in
      in-at (count_of text + 5) (drop 1 text) k (omega arith)
      ∙ ap (λ (x : ℕ). byte_of x (get_or (drop 1 text) (2 * k + 1) 0)) (get_or-drop 1 text (2 * k) 0 ∙ ap (λ (i : ℕ). get_or text i 0) high)
      ∙ ap (λ (y : ℕ). byte_of (get_or text (2 * k + 1) 0) y) (get_or-drop 1 text (2 * k + 1) 0 ∙ ap (λ (i : ℕ). get_or text i 0) low)

  -- Its type.
  pub front-type : type_of text ≡ byte_of (get_or text 7 0) (get_or text 8 0)
  front-type = front-byte 3 (omega arith)

  -- Its address.
  pub front-address : address_of text ≡ 256 * byte_of (get_or text 3 0) (get_or text 4 0) + byte_of (get_or text 5 0) (get_or text 6 0)
  front-address = (λ i. 256 * front-byte 1 (omega arith) i + front-byte 2 (omega arith) i)

  -- Its data has as many bytes as it says.
  pub data-length : length (data_of text) ≡ count_of text
  data-length =
      length-take-le (count_of text) (drop 4 (bytes_of text)) (omega (arith, length-drop 4 (bytes_of text), in-length (count_of text + 5) (drop 1 text)))

  -- The tests of a record.
  abbrev colon : Bool
  colon = eqb (get_or text 0 0) ':'

  abbrev digits : Bool
  digits = all_bytes (bytes_of text)

  abbrev summed : Bool
  summed = eqb (sum_of (bytes_of text) % 256) 0

  abbrev fed : Bool
  fed = eqb (get_or text (2 * count_of text + 11) 0) feed

  -- A record begins with a colon.
  pub record-colon : has_record text ≡ true → get_or text 0 0 ≡ ':'
  unfolding has_record
  record-colon e =
      eqb-true (get_or text 0 0) ':' (and_left colon digits (and_left (colon && digits) summed (and_left (colon && digits && summed) fed e)))

  -- All of it are bytes.
  pub record-digits : has_record text ≡ true → all_bytes (bytes_of text) ≡ true
  unfolding has_record
  record-digits e = and_right colon digits (and_left (colon && digits) summed (and_left (colon && digits && summed) fed e))

  -- Their sum is right.
  pub record-summed : has_record text ≡ true → sum_of (bytes_of text) % 256 ≡ 0
  unfolding has_record
  record-summed e = eqb-true (sum_of (bytes_of text) % 256) 0 (and_right (colon && digits) summed (and_left (colon && digits && summed) fed e))

  -- It says that it has at most 255 bytes.
  pub record-count : has_record text ≡ true → count_of text < 256
  record-count e =
      let size = in-length (count_of text + 5) (drop 1 text) in
      omega (arith, all-at (bytes_of text) 0 (record-digits e) (omega (arith, size)), front-byte 0 (omega arith))

  -- With a colon and a line feed there is a record where all are bytes and their sum is right.
  pub framed : get_or text 0 0 ≡ ':' → get_or text (2 * count_of text + 11) 0 ≡ feed → digits && summed ≡ has_record text
  unfolding has_record
  framed p q =
      sym ((λ i. eq-eqb (get_or text 0 0) ':' p i && digits && summed && eq-eqb (get_or text (2 * count_of text + 11) 0) feed q i) ∙ and-true (digits && summed))

  -- Some test that a record passes fails: there is none.
  unless : (has_record text ≡ true → ⊥) → false ≡ has_record text
  unless f = split (has_record text) (λ e. absurd (f e)) (λ e. sym e)

  -- Where one of the first five is no byte there is no record.
  pub no-byte : (k : ℕ) → k < 5 → byte_of (get_or text (2 * k + 1) 0) (get_or text (2 * k + 2) 0) ≡ 256 → has_record text ≡ false
  no-byte k h e =
      sym (unless (λ r. omega (arith, all-at (bytes_of text) k (record-digits r) (omega (arith, in-length (count_of text + 5) (drop 1 text))), front-byte k h)))

  -- It ends past the text.
  pub no_room : {count : ℕ} → count ≡ count_of text → length text ≤ 2 * count + 11 → false ≡ has_record text
  no_room {count} c h = unless (λ r. omega (arith, record-within text r))

  -- It has no colon.
  pub no-colon : (get_or text 0 0 ≡ ':' → ⊥) → false ≡ has_record text
  no-colon f = unless (λ r. f (record-colon r))

  -- It has no line feed.
  pub no-feed : {count : ℕ} → count ≡ count_of text → (get_or text (2 * count + 11) 0 ≡ feed → ⊥) → false ≡ has_record text
  no-feed {count} c f = unless (λ r. f (ap (λ (n : ℕ). get_or text (2 * n + 11) 0) c ∙ record-end text r))

  -- Where there is no record, there is neither data nor an end.
  pub no_end : has_record text ≡ false → has_end text ≡ false
  unfolding has_end
  no_end e = rw e

  pub no-data : (address : ℕ) → has_record text ≡ false → has_data address text ≡ false
  unfolding has_data
  no-data address e = rw e

  -- The end record is one, and so is a data record.
  pub end-record : has_end text ≡ true → has_record text ≡ true
  end-record e = split (has_record text) (λ h. h) (λ h. absurd (clash e (no_end h)))

  pub data-record : (address : ℕ) → has_data address text ≡ true → has_record text ≡ true
  data-record address e = split (has_record text) (λ h. h) (λ h. absurd (clash e (no-data address h)))

  -- A data record has some bytes.
  pub data-some : (address : ℕ) → has_data address text ≡ true → 0 < count_of text
  unfolding has_data
  data-some address e =
      let typed = has_record text && eqb (type_of text) 0 in
      let some = ltb 0 (count_of text) in
      ltb-true 0 (count_of text) (and_right typed some (and_left (typed && some) (eqb (address_of text) address) e))

  -- The end record has none.
  pub end_none : has_end text ≡ true → count_of text ≡ 0
  unfolding has_end
  end_none e =
      let typed = has_record text && eqb (type_of text) 1 in
      let none = eqb (count_of text) 0 in
      let first = eqb (address_of text) 0 in
      eqb-true (count_of text) 0 (and_right typed none (and_left (typed && none) first (and_left (typed && none && first) (eqb (length text) 12) e)))

-- ---- what stands there, by its tests

module _ (address : ℕ) (text : List ℕ) where
  -- No record.
  pub front-none : has_record text ≡ false → None ≡ front_of address text
  unfolding front_of
  front-none e = sym (passed_over (has_end text) _ _ (no_end text e) ∙ passed_over (has_data address text) _ _ (no-data text address e))

  -- A text that is too short for one.
  pub front-short : length text < 12 → None ≡ front_of address text
  front-short h = front-none (split (has_record text) (λ e. absurd (omega (arith, record-within text e))) (λ e. e))

  -- The record's parts, as they were read.
  pub record Parts (count type here : ℕ) : Type 0 where
    pub there : has_record text ≡ true
    pub counted : count ≡ count_of text
    pub typed : type ≡ type_of text
    pub located : here ≡ address_of text

  module _ {count type here : ℕ} (p : Parts count type here) where
    abbrev ended : Bool
    ended = eqb type 1 && eqb count 0 && eqb here 0 && eqb (length text) 12

    abbrev held : Bool
    held = eqb type 0 && ltb 0 count && eqb here address

    as-end : has_end text ≡ ended
    unfolding has_end
    as-end = (λ i. p.there i && eqb (sym p.typed i) 1 && eqb (sym p.counted i) 0 && eqb (sym p.located i) 0 && eqb (length text) 12)

    as-data : has_data address text ≡ held
    unfolding has_data
    as-data = (λ i. p.there i && eqb (sym p.typed i) 0 && ltb 0 (sym p.counted i) && eqb (sym p.located i) address)

    -- The end record.
    pub front-end : ended ≡ true → Some Record.End ≡ front_of address text
    unfolding front_of
    front-end e = sym (chosen (has_end text) _ _ (as-end ∙ e))

    -- A data record.
    pub front-data : ended ≡ false → held ≡ true → Some (Record.Data count) ≡ front_of address text
    unfolding front_of
    front-data e d = ap (λ (n : ℕ). Some (Record.Data n)) p.counted ∙ sym (passed_over (has_end text) _ _ (as-end ∙ e) ∙ chosen (has_data address text) _ _ (as-data ∙ d))

    -- Another record.
    pub front-other : ended ≡ false → held ≡ false → None ≡ front_of address text
    unfolding front_of
    front-other e d = sym (passed_over (has_end text) _ _ (as-end ∙ e) ∙ passed_over (has_data address text) _ _ (as-data ∙ d))
