-- A text measured record by record.
use Prim.Native.Nat.{ℕ, ◌+◌, ◌*◌, ◌≤◌}
use mathlib.Core.Path.{◌≡◌, refl, sym, ap, ◌∙◌}
use mathlib.Core.List.{List}
use mathlib.Core.Bool.{true, false}
use native.Mathlib.Omega.{arith}
use lib.ListN.{length, drop, length-drop, length-append}
use Rattle.predicate.proofs.Bools.{split, chosen, passed_over}
use Rattle.board.specs.Hex.{Parsed, no_file, file, in_front, count_of, data_of, record_length, has_data, has_end, parsed, is_no_file, read_bytes}
use Rattle.std.specs.Prelude.{Option, Some, None}
use Rattle.intel_hex.specs.declared.reading.Record.{Record}
use Rattle.intel_hex.specs.Storing.{front_of}
use Rattle.intel_hex.proofs.Parsing.{record-within, reads_to, reads_end, reads-data, reads_none}
use Rattle.intel_hex.proofs.Fronts.{data-length, data-record}

-- ---- what stands at a front

module _ (address : ℕ) (text : List ℕ) where
  -- A data record stands there.
  pub record DataFront (n : ℕ) : Type 0 where
    pub no_end : has_end text ≡ false
    pub some : has_data address text ≡ true
    pub count : count_of text ≡ n

  -- The three cases.
  by-end : {front : Option Record} → front ≡ front_of address text → has_end text ≡ true → front ≡ Some Record.End
  unfolding front_of
  by-end e t = e ∙ chosen (has_end text) _ _ t

  by-data : {front : Option Record} → front ≡ front_of address text → has_end text ≡ false → has_data address text ≡ true → front ≡ Some (Record.Data (count_of text))
  unfolding front_of
  by-data e t d = e ∙ passed_over (has_end text) _ _ t ∙ chosen (has_data address text) _ _ d

  by-none : {front : Option Record} → front ≡ front_of address text → has_end text ≡ false → has_data address text ≡ false → front ≡ None
  unfolding front_of
  by-none e t d = e ∙ passed_over (has_end text) _ _ t ∙ passed_over (has_data address text) _ _ d

  pub counts : {n : ℕ} → Some (Record.Data n) ≡ front_of address text → DataFront n
  counts {n} e =
      split (has_end text) (λ t. let z = by-end e t in cc)
      (λ t. split (has_data address text)
      (λ d. record { no_end = t; some = d; count = let z = by-data e t d in cc })
      (λ d. let z = by-none e t d in cc))

  pub ends : Some Record.End ≡ front_of address text → has_end text ≡ true
  ends e =
      split (has_end text) (λ t. t)
      (λ t. split (has_data address text) (λ d. let z = by-data e t d in cc) (λ d. let z = by-none e t d in cc))

  pub none : None ≡ front_of address text → (has_end text ≡ false) × (has_data address text ≡ false)
  none e =
      split (has_end text) (λ t. let z = by-end e t in cc)
      (λ t. split (has_data address text) (λ d. let z = by-data e t d in cc) (λ d. (t, d)))

-- ---- measuring

-- How many bytes a text holds, if it is a file.
pub data Size : Type 0 where
  none-held : Size
  held : ℕ → Size

-- How many are read where `k` stand before what follows.
abbrev pub shifted : ℕ → Parsed → Size
shifted k no_file = none-held
shifted k (file bytes) = held (k + length bytes)

shifted-more : (k n : ℕ) (bytes : List ℕ) → length bytes ≡ n → (p : Parsed) → shifted k (in_front bytes p) ≡ shifted (k + n) p
shifted-more k n bytes e no_file = refl
shifted-more k n bytes e (file more) = ap held (omega (arith, length-append bytes more))

-- The records before `rest` are looked through; they have `address` bytes.
pub record Measuring (text rest : List ℕ) (address : ℕ) : Type 0 where
  pub fits : address + length rest ≤ length text
  pub same : shifted 0 (parsed text) ≡ shifted address (reads_to address rest)

-- At the beginning.
pub measuring-begins : {text : List ℕ} → Measuring text text 0
unfolding parsed
measuring-begins {text} = record { fits = omega arith; same = refl }

-- The next record is within what is left.
pub next-within : (address : ℕ) {n : ℕ} (rest : List ℕ) → Some (Record.Data n) ≡ front_of address rest → 2 * n + 12 ≤ length rest
next-within address {n} rest e =
    let d = counts address rest e in
    omega (arith, record-within rest (data-record rest address d.some), d.count)

-- One record more.
pub measuring-more : {text rest after : List ℕ} {address n : ℕ} → Measuring text rest address → Some (Record.Data n) ≡ front_of address rest →
    after ≡ drop (2 * n + 12) rest → Measuring text after (address + n)
measuring-more {text} {rest} {after} {address} {n} m e f =
    let d = counts address rest e in
    let past : drop (record_length rest) rest ≡ after = ap (λ (c : ℕ). drop (2 * c + 12) rest) d.count ∙ sym f in
    record {
      fits = omega (arith, m.fits, next-within address rest e, ap length f, length-drop (2 * n + 12) rest);
      same = m.same ∙ ap (shifted address) (reads-data address rest d.no_end d.some)
          ∙ shifted-more address n (data_of rest) (data-length rest ∙ d.count) (reads_to (address + count_of rest) (drop (record_length rest) rest))
          ∙ (λ i. shifted (address + n) (reads_to (address + d.count i) (past i)));
    }

-- A size says whether there is a file, and how many bytes it holds.
sized : (p : Parsed) (k : ℕ) → shifted 0 p ≡ held k → (is_no_file p ≡ false) × (k ≡ length (read_bytes p))
sized no_file k e = let z : ◌≡◌ {A = ℕ} 0 1 = cc in absurd (omega arith)
sized (file bytes) k e = let z : 0 + length bytes ≡ k = cc in (refl, omega arith)

unsized : (p : Parsed) → shifted 0 p ≡ none-held → is_no_file p ≡ true
unsized no_file e = refl
unsized (file bytes) e = cc

-- The end record.
pub measuring-ends : {text rest : List ℕ} {address : ℕ} → Measuring text rest address → Some Record.End ≡ front_of address rest →
    (is_no_file (parsed text) ≡ false) × (address ≡ length (read_bytes (parsed text)))
measuring-ends {text} {rest} {address} m e =
    let all : address + 0 ≡ address = omega arith in
    sized (parsed text) address (m.same ∙ ap (shifted address) (reads_end address rest (ends address rest e)) ∙ ap held all)

-- No record.
pub measuring-stops : {text rest : List ℕ} {address : ℕ} → Measuring text rest address → None ≡ front_of address rest → is_no_file (parsed text) ≡ true
measuring-stops {text} {rest} {address} m e =
    let z = none address rest e in
    unsized (parsed text) (m.same ∙ ap (shifted address) (reads_none address rest z.0 z.1))
