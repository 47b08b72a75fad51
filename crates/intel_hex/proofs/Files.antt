-- A text reads to bytes exactly where it is a file of them.
use Prim.Native.Nat.{ℕ, zero, suc, ◌+◌, ◌*◌, ◌/◌, ◌%◌, ◌≤◌, ◌<◌}
use mathlib.Core.Path.{◌≡◌, refl, sym, ap, ap₂, subst, subst₂, subst₃, ◌∙◌}
use mathlib.Core.List.{List, [], ◌∷◌, ◌++◌}
use mathlib.Core.Bool.{Bool, true, false, ◌&&◌, false≢true}
use native.Mathlib.Omega.{arith}
use lib.Dec.{eqb, ltb}
use lib.ListN.{length, get_or, take, drop, length-append, take-append-drop, drop_of_length-le}
use lib.Seq.{take_at, drop_at, get_or_at, append_snoc, drop-cons, take-suc, take_all, length-take-le}
use borrow.Author.Tests.{eqb-true, ltb-true, eq-eqb, ne_eqb, lt-ltb}
use Rattle.predicate.proofs.Bools.{split, chosen, passed_over, and_left, and_right, and_both, and-off, and-off-right}
use Rattle.text.specs.Ascii.{feed, ':'}
use Rattle.board.specs.Hex.{sum_of, check_byte, record_bytes, bytes_in, all_bytes, count_of, bytes_of, address_of, type_of, data_of, record_length}
use Rattle.board.specs.Hex.{has_record, has_data, has_end, Parsed, no_file, file, in_front, parsed_from, parsed}
use Rattle.intel_hex.specs.Statements.{Spells, HexFile, ends, holds, ReadsFiles}
use Rattle.intel_hex.proofs.Words.{bytes-first, bytes_rest, bytes-none, bytes-append, bytes-split}
use Rattle.intel_hex.proofs.Spelling.{spells-length, spells-bytes, spells-in, in-spells}
use Rattle.intel_hex.proofs.Parsing.{in-length, in-at, reads_to, reads_end, reads-data, record-end, record-within}
use Rattle.intel_hex.proofs.Fronts.{data-length, record-colon, record-digits, record-summed, record-count}
use Rattle.intel_hex.proofs.Written.{sum-append}

-- Four tests that all hold, each by itself.
four-hold : (a b c d : Bool) → a && b && c && d ≡ true → (a ≡ true) × (b ≡ true) × (c ≡ true) × (d ≡ true)
four-hold a b c d e =
    let three = and_left (a && b && c) d e in
    let two = and_left (a && b) c three in
    (and_left a b two, and_right a b two, and_right (a && b) c three, and_right (a && b && c) d e)

-- ---- a record's bytes

-- With the checksum the sum is a multiple of 256.
sum-right : (front : List ℕ) → sum_of (front ++ (check_byte front ∷ [])) % 256 ≡ 0
unfolding sum_of
sum-right front = omega (arith, sum-append front (check_byte front ∷ []))

-- Only the checksum makes it one.
check-only : (front : List ℕ) (c : ℕ) → c < 256 → sum_of (front ++ (c ∷ [])) % 256 ≡ 0 → c ≡ check_byte front
unfolding sum_of
check-only front c h e = omega (arith, sum-append front (c ∷ []))

-- A record has five bytes more than its data.
five-more : (address type : ℕ) (some : List ℕ) → length (record_bytes address type some) ≡ length some + 5
five-more address type some = omega (arith, length-append some (check_byte (length some ∷ address / 256 ∷ address % 256 ∷ type ∷ some) ∷ []))

-- A record is a colon, two digits a byte and a line feed, before what follows.
pub record-long : {digits : List ℕ} (address type : ℕ) (some rest : List ℕ) → Spells digits (record_bytes address type some) →
    length (':' ∷ (digits ++ (feed ∷ rest))) ≡ 2 * length some + 12 + length rest
record-long {digits} address type some rest s =
    omega (arith, length-append digits (feed ∷ rest), spells-length s, five-more address type some)

-- Bytes of which the first says how many there are, with the right sum, are a record's.
record-made : (bytes : List ℕ) (n : ℕ) → length bytes ≡ n + 5 → get_or bytes 0 0 ≡ n → all_bytes bytes ≡ true → sum_of bytes % 256 ≡ 0 →
    bytes ≡ record_bytes (256 * get_or bytes 1 0 + get_or bytes 2 0) (get_or bytes 3 0) (take n (drop 4 bytes))
record-made [] n l c e s = absurd (omega arith)
record-made (b0 ∷ []) n l c e s = absurd (omega arith)
record-made (b0 ∷ b1 ∷ []) n l c e s = absurd (omega arith)
record-made (b0 ∷ b1 ∷ b2 ∷ []) n l c e s = absurd (omega arith)
record-made (b0 ∷ b1 ∷ b2 ∷ b3 ∷ rest) n l c e s =
    let some = take n rest in
    let last = get_or rest n 0 in
    let size : length some ≡ n = length-take-le n rest (omega arith) in
    let cut : rest ≡ some ++ (last ∷ []) = sym (take_all (suc n) rest (omega arith)) ∙ take-suc rest n 0 (omega arith) in
    let small = bytes-first b2 (b3 ∷ rest) (bytes_rest b1 (b2 ∷ b3 ∷ rest) (bytes_rest b0 (b1 ∷ b2 ∷ b3 ∷ rest) e)) in
    let first : b0 ≡ length some = omega arith in
    let high : b1 ≡ (256 * b1 + b2) / 256 = omega arith in
    let low : b2 ≡ (256 * b1 + b2) % 256 = omega arith in
    let front = length some ∷ (256 * b1 + b2) / 256 ∷ (256 * b1 + b2) % 256 ∷ b3 ∷ some in
    let whole : ◌≡◌ {A = List ℕ} (b0 ∷ b1 ∷ b2 ∷ b3 ∷ rest) (front ++ (last ∷ [])) = (λ i. first i ∷ high i ∷ low i ∷ b3 ∷ cut i) in
    let bytes = bytes-split front (last ∷ []) (subst (λ (l : List ℕ). all_bytes l ≡ true) whole e) in
    let right : last ≡ check_byte front = check-only front last (bytes-first last [] bytes.1) (subst (λ (l : List ℕ). sum_of l % 256 ≡ 0) whole s) in
    whole ∙ ap (λ (x : ℕ). front ++ (x ∷ [])) right

-- ---- a record at a text's front

-- What a record says, and the text behind it.
record Stands (address type : ℕ) (some rest text : List ℕ) : Type 0 where
  held : has_record text ≡ true
  count : count_of text ≡ length some
  kind : type_of text ≡ type
  place : address_of text ≡ address
  bytes : data_of text ≡ some
  past : drop (record_length text) text ≡ rest
  long : length text ≡ 2 * length some + 12 + length rest

-- Digits that spell a record's bytes, with a colon before and a line feed after them, are it.
stands : {address type : ℕ} {digits : List ℕ} (some rest : List ℕ) → Spells digits (record_bytes address type some) →
    Stands address type some rest (':' ∷ (digits ++ (feed ∷ rest)))
unfolding bytes_in has_record
stands {address} {type} {digits} some rest s =
    let tail = digits ++ (feed ∷ rest) in
    let text = ':' ∷ tail in
    let front = length some ∷ address / 256 ∷ address % 256 ∷ type ∷ some in
    let of : List ℕ = record_bytes address type some in
    let size = five-more address type some in
    let wide = spells-length s in
    let whole : bytes_in (length of) tail ≡ of = spells-in (feed ∷ rest) s in
    let count : count_of text ≡ length some = ap (λ (l : List ℕ). get_or l 0 0) whole in
    let five : count_of text + 5 ≡ length of = omega arith in
    let is : bytes_of text ≡ of = ap (λ (k : ℕ). bytes_in k tail) five ∙ whole in
    let end : get_or text (2 * count_of text + 11) 0 ≡ feed = get_or_at (':' ∷ digits) feed rest 0 (2 * count_of text + 11) (omega arith) in
    let behind = (':' ∷ digits) ++ (feed ∷ []) in
    record {
      held =
          and_both _ _
          (and_both _ _
          (and_both _ _ refl (subst (λ (l : List ℕ). all_bytes l ≡ true) (sym is) (spells-bytes s)))
          (subst (λ (l : List ℕ). eqb (sum_of l % 256) 0 ≡ true) (sym is) (eq-eqb (sum_of of % 256) 0 (sum-right front))))
          (eq-eqb (get_or text (2 * count_of text + 11) 0) feed end);
      count = count;
      kind = ap (λ (l : List ℕ). get_or l 3 0) is;
      place = ap (λ (l : List ℕ). 256 * get_or l 1 0 + get_or l 2 0) is ∙ omega arith;
      bytes = ap (λ (l : List ℕ). take (count_of text) (drop 4 l)) is ∙ take_at some (check_byte front ∷ []) (count_of text) (sym count);
      past = ap (drop (record_length text)) (sym (append_snoc (':' ∷ digits) feed rest))
          ∙ drop_at behind rest (record_length text) (omega (arith, length-append (':' ∷ digits) (feed ∷ [])));
      long = record-long address type some rest s;
    }

-- A text with a record at its front, taken apart.
record Apart (text : List ℕ) : Type 0 where
  digits : List ℕ
  parts : text ≡ ':' ∷ (digits ++ (feed ∷ drop (record_length text) text))
  spells : Spells digits (record_bytes (address_of text) (type_of text) (data_of text))
  count : length (data_of text) ≡ count_of text
  small : count_of text ≤ 255

-- Each text that has a record is such.
apart : (text : List ℕ) → has_record text ≡ true → Apart text
unfolding has_record bytes_in
apart [] h = absurd (false≢true h)
apart (c ∷ tail) h =
    let text = c ∷ tail in
    let n = count_of text in
    let inside = record-within text h in
    let colon = record-colon text h in
    let bytes = record-digits text h in
    let sum = record-summed text h in
    let size : length (bytes_of text) ≡ n + 5 = in-length (n + 5) tail in
    let made = record-made (bytes_of text) n size (in-at (n + 5) tail 0 (omega arith)) bytes sum in
    let count = data-length text in
    let two = 2 * (n + 5) in
    let near : suc two ≡ 2 * n + 11 = omega arith in
    let far : suc (suc two) ≡ record_length text = omega arith in
    let here : drop two tail ≡ feed ∷ drop (record_length text) text =
    drop-cons tail two 0 (omega arith)
    ∙ ap₂ (λ (x : ℕ) (l : List ℕ). x ∷ l) (ap (λ (k : ℕ). get_or text k 0) near ∙ record-end text h) (ap (λ (k : ℕ). drop k text) far) in
    record {
      digits = take two tail;
      parts = ap₂ (λ (x : ℕ) (l : List ℕ). x ∷ l) colon (sym (take-append-drop two tail) ∙ ap (λ (l : List ℕ). take two tail ++ l) here);
      spells = subst (Spells (take two tail)) made (in-spells (n + 5) tail bytes);
      count = count;
      small = omega (arith, record-count text h);
    }

-- ---- a file is read

-- A file's bytes are read.
file-reads : {address : ℕ} {text bytes : List ℕ} → HexFile address text bytes → reads_to address text ≡ file bytes
unfolding has_end has_data
file-reads (ends {address = address} {digits = digits} s) =
    let text = ':' ∷ (digits ++ (feed ∷ [])) in
    let r = stands [] [] s in
    reads_end address text
    (and_both _ _
    (and_both _ _
    (and_both _ _ (and_both _ _ r.held (eq-eqb (type_of text) 1 r.kind)) (eq-eqb (count_of text) 0 r.count))
    (eq-eqb (address_of text) 0 r.place))
    (eq-eqb (length text) 12 r.long))
file-reads (holds {address = address} {digits = digits} {rest = rest} {more = more} some least most s f) =
    let text = ':' ∷ (digits ++ (feed ∷ rest)) in
    let r = stands some rest s in
    let no_end : has_end text ≡ false =
    and-off _ _ (and-off _ _ (and-off _ _ (and-off-right (has_record text) _ (ne_eqb (type_of text) 1 (λ e. omega (arith, r.kind)))))) in
    let held : has_data address text ≡ true =
    and_both _ _
    (and_both _ _ (and_both _ _ r.held (eq-eqb (type_of text) 0 r.kind)) (lt-ltb 0 (count_of text) (omega (arith, r.count))))
    (eq-eqb (address_of text) address r.place) in
    reads-data address text no_end held
    ∙ ap₂ (λ (k : ℕ) (l : List ℕ). in_front (data_of text) (reads_to (address + k) l)) r.count r.past
    ∙ ap (in_front (data_of text)) (file-reads f)
    ∙ ap (λ (l : List ℕ). file (l ++ more)) r.bytes

-- What a file holds are bytes.
pub file-bytes : {address : ℕ} {text bytes : List ℕ} → HexFile address text bytes → all_bytes bytes ≡ true
file-bytes (ends s) = bytes-none
file-bytes (holds {more = more} some least most s f) =
    let of = bytes_rest _ _ (bytes_rest _ _ (bytes_rest _ _ (bytes_rest _ _ (spells-bytes s)))) in
    bytes-append some more (bytes-split some _ of).0 (file-bytes f)

-- ---- what is read is a file

-- The end record by itself is a file.
end-file : (address : ℕ) (text : List ℕ) → has_end text ≡ true → HexFile address text []
unfolding has_end
end-file address text h =
    let most = has_record text && eqb (type_of text) 1 && eqb (count_of text) 0 && eqb (address_of text) 0 in
    let tests = four-hold (has_record text) (eqb (type_of text) 1) (eqb (count_of text) 0) (eqb (address_of text) 0) (and_left most _ h) in
    let a = apart text tests.0 in
    let kind = eqb-true (type_of text) 1 tests.1 in
    let count = eqb-true (count_of text) 0 tests.2 in
    let place = eqb-true (address_of text) 0 tests.3 in
    let long = eqb-true (length text) 12 (and_right most (eqb (length text) 12) h) in
    let no_bytes : data_of text ≡ [] = ap (λ (k : ℕ). take k (drop 4 (bytes_of text))) count in
    let no_more : drop (record_length text) text ≡ [] = drop_of_length-le text {i = record_length text} (omega arith) in
    let spells = subst₃ (λ (x y : ℕ) (l : List ℕ). Spells a.digits (record_bytes x y l)) place kind no_bytes a.spells in
    subst (λ (t : List ℕ). HexFile address t []) (sym (a.parts ∙ ap (λ (l : List ℕ). ':' ∷ (a.digits ++ (feed ∷ l))) no_more)) (ends spells)

-- A data record before a file is a file.
data-file : {more : List ℕ} (address : ℕ) (text : List ℕ) → has_data address text ≡ true →
    HexFile (address + count_of text) (drop (record_length text) text) more → HexFile address text (data_of text ++ more)
unfolding has_data
data-file {more} address text h f =
    let tests = four-hold (has_record text) (eqb (type_of text) 0) (ltb 0 (count_of text)) (eqb (address_of text) address) h in
    let a = apart text tests.0 in
    let kind = eqb-true (type_of text) 0 tests.1 in
    let count = ltb-true 0 (count_of text) tests.2 in
    let place = eqb-true (address_of text) address tests.3 in
    let spells = subst₂ (λ (x y : ℕ). Spells a.digits (record_bytes x y (data_of text))) place kind a.spells in
    let rest = subst (λ (k : ℕ). HexFile (address + k) (drop (record_length text) text) more) (sym a.count) f in
    subst
    (λ (t : List ℕ). HexFile address t (data_of text ++ more))
    (sym a.parts)
    (holds (data_of text) (omega (arith, a.count)) (omega (arith, a.count, a.small)) spells rest)

-- Where bytes in front of what follows are read, what follows is.
pub behind : (some : List ℕ) (p : Parsed) (bytes : List ℕ) → in_front some p ≡ file bytes → (more : List ℕ) × (p ≡ file more) × (some ++ more ≡ bytes)
behind some no_file bytes e = let z : ◌≡◌ {A = ℕ} 0 1 = cc in absurd (omega arith)
behind some (file more) bytes e = (more, refl, cc)

-- What is read from a text is in it.
reads-file : (most address : ℕ) (text bytes : List ℕ) → parsed_from most address text ≡ file bytes → HexFile address text bytes
unfolding parsed_from
reads-file zero address text bytes e = let z : ◌≡◌ {A = ℕ} 0 1 = cc in absurd (omega arith)
reads-file (suc most) address text bytes e =
    let rest = drop (record_length text) text in
    split (has_end text)
    (λ t.
    let is : file [] ≡ file bytes = sym (chosen (has_end text) _ _ t) ∙ e in
    let same : [] ≡ bytes = cc in
    subst (HexFile address text) same (end-file address text t))
    (λ t.
    let next = sym (passed_over (has_end text) _ _ t) ∙ e in
    split (has_data address text)
    (λ u.
    let b = behind (data_of text) (parsed_from most (address + count_of text) rest) bytes (sym (chosen (has_data address text) _ _ u) ∙ next) in
    subst (HexFile address text) b.2 (data-file address text u (reads-file most (address + count_of text) rest b.0 b.1)))
    (λ u.
    let is : no_file ≡ file bytes = sym (passed_over (has_data address text) _ _ u) ∙ next in
    let z : ◌≡◌ {A = ℕ} 0 1 = cc in absurd (omega arith)))

-- A text reads to bytes exactly where it is a file of them.
pub reads-files : ReadsFiles
unfolding parsed
reads-files text bytes = (reads-file (length text) 0 text bytes, file-reads)
