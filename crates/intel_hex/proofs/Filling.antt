-- A row filled record by record with the words of a text.
use Prim.Native.Nat.{ℕ, ◌+◌, ◌*◌, ◌/◌, ◌≤◌, ◌<◌}
use mathlib.Core.Path.{◌≡◌, refl, sym, ap, subst, ◌∙◌}
use mathlib.Core.List.{List, [], ◌++◌}
use mathlib.Core.Bool.{true}
use native.Mathlib.Omega.{arith}
use lib.ListN.{length, get_or, take, drop, length-drop, length-append}
use lib.Seq.{get_or-drop, get_or-take, ext_get_or, length-take-le}
use Rattle.predicate.proofs.Bools.{split}
use Rattle.board.specs.Hex.{file, byte_of, bytes_in, all_bytes, count_of, bytes_of, data_of, record_length, has_record, has_data, has_end, parsed, read_bytes}
use Rattle.intel_hex.specs.Storing.{stored, Filling}
use Rattle.intel_hex.proofs.Parsing.{in-at, in-length, in-take, reads_to, reads_end, reads-data, reads_none, record-within}
use Rattle.intel_hex.proofs.Words.{bytes-split}
use Rattle.intel_hex.proofs.Files.{behind, file-bytes, reads-files}
use Rattle.intel_hex.proofs.Fronts.{data-length, data-record, data-some, end-record, end_none}
use Rattle.intel_hex.proofs.Stored.{stored-length, stored-append}

-- A record's data are the bytes from its tenth character on.
pub data-in : (text : List ℕ) → data_of text ≡ bytes_in (count_of text) (drop 9 text)
data-in text =
    let n = count_of text in
    ext_get_or 0 (data_of text) (bytes_in n (drop 9 text)) (data-length text ∙ sym (in-length n (drop 9 text))) (λ i h.
    let low : i < n = omega (arith, data-length text) in
    let a : 1 + 2 * (4 + i) ≡ 9 + 2 * i = omega arith in
    let b : 1 + (2 * (4 + i) + 1) ≡ 9 + (2 * i + 1) = omega arith in
    get_or-take n (drop 4 (bytes_of text)) i 0 low ∙ get_or-drop 4 (bytes_of text) i 0 ∙ in-at (n + 5) (drop 1 text) (4 + i) (omega (arith, data-length text))
    ∙ (λ j. byte_of ((get_or-drop 1 text (2 * (4 + i)) 0 ∙ ap (λ (k : ℕ). get_or text k 0) a ∙ sym (get_or-drop 9 text (2 * i) 0)) j) ((get_or-drop 1 text (2 * (4 + i) + 1) 0 ∙ ap (λ (k : ℕ). get_or text k 0) b ∙ sym (get_or-drop 9 text (2 * i + 1) 0)) j))
    ∙ sym (in-at n (drop 9 text) i low))

-- ---- a file's next record

-- A data record, and what follows it.
pub record Onward (from : ℕ) (text more : List ℕ) : Type 0 where
  pub rest : List ℕ
  pub there : has_record text ≡ true
  pub some : 0 < count_of text
  pub parts : bytes_in (count_of text) (drop 9 text) ++ rest ≡ more
  pub reads : reads_to (from + count_of text) (drop (record_length text) text) ≡ file rest

-- The end of a file, or a data record.
pub data Next (from : ℕ) (text more : List ℕ) : Type 0 where
  over : has_record text ≡ true → count_of text ≡ 0 → more ≡ [] → Next from text more
  onward : Onward from text more → Next from text more

-- What stands in a file.
next_of : (from : ℕ) (text more : List ℕ) → reads_to from text ≡ file more → Next from text more
next_of from text more e =
    split (has_end text)
    (λ t. over (end-record text t) (end_none text t) (let z = sym (reads_end from text t) ∙ e in cc))
    (λ t. split (has_data from text)
    (λ d.
    let b = behind (data_of text) (reads_to (from + count_of text) (drop (record_length text) text)) more (sym (reads-data from text t d) ∙ e) in
    onward (record { rest = b.0; there = data-record text from d; some = data-some text from d; parts = ap (λ (l : List ℕ). l ++ b.0) (sym (data-in text)) ∙ b.2; reads = b.1 }))
    (λ d. let z = sym (reads_none from text t d) ∙ e in let y : ◌≡◌ {A = ℕ} 0 1 = cc in absurd (omega arith)))

there : {from : ℕ} {text more : List ℕ} → Next from text more → has_record text ≡ true
there (over t c z) = t
there (onward o) = o.there

-- A record with bytes is a data record.
onward-of : {from : ℕ} {text more : List ℕ} → Next from text more → 0 < count_of text → Onward from text more
onward-of (over t c z) h = absurd (omega arith)
onward-of (onward o) h = o

-- One with none is the end.
over-of : {from : ℕ} {text more : List ℕ} → Next from text more → count_of text ≡ 0 → more ≡ []
over-of (over t c z) e = z
over-of (onward o) e = absurd (omega (arith, o.some))

-- ---- the records stored so far

-- The records before `rest` are stored, `from` bytes.
pub record Storing (text row₀ row rest : List ℕ) (from : ℕ) : Type 0 where
  pub more : List ℕ
  pub reads : reads_to from rest ≡ file more
  pub all : all_bytes more ≡ true
  pub fits : from + length more ≡ 8 * length row₀
  pub size : length row ≡ length row₀
  pub whole : stored row from more ≡ stored row₀ 0 (read_bytes (parsed text))

-- None yet.
pub storing-begins : {text row : List ℕ} → Filling text row → Storing text row row text 0
unfolding parsed
storing-begins {text} {row} f =
    record {
      more = f.bytes;
      reads = f.parses;
      all = file-bytes ((reads-files text f.bytes).0 f.parses);
      fits = omega (arith, f.fills);
      size = refl;
      whole = ap (λ p. stored row 0 (read_bytes p)) (sym f.parses);
    }

-- A record stands next.
pub storing-there : {text row₀ row rest : List ℕ} {from : ℕ} → Storing text row₀ row rest from → has_record rest ≡ true
storing-there {text} {row₀} {row} {rest} {from} s = there (next_of from rest s.more s.reads)

-- The data of a record, `n` bytes.
pub record Piece (rest digits : List ℕ) (n : ℕ) : Type 0 where
  pub count : n ≡ count_of rest
  pub some : 0 < n
  pub within : 2 * n + 12 ≤ length rest
  pub long : length digits ≡ 2 * n
  pub bytes : bytes_in (length digits / 2) digits ≡ bytes_in n (drop 9 rest)

pub piece-of : {rest digits : List ℕ} → has_record rest ≡ true → 0 < count_of rest → digits ≡ take (2 * count_of rest) (drop 9 rest) → Piece rest digits (count_of rest)
piece-of {rest} {digits} r h e =
    let n = count_of rest in
    let inside : 2 * n + 12 ≤ length rest = record-within rest r in
    let long : length digits ≡ 2 * n = ap length e ∙ length-take-le (2 * n) (drop 9 rest) (omega (arith, length-drop 9 rest)) in
    let half : length digits / 2 ≡ n = omega arith in
    record { count = refl; some = h; within = inside; long = long; bytes = (λ i. bytes_in (half i) (e i)) ∙ in-take n (drop 9 rest) }

-- A data record, and the bytes that follow it.
pub record Data (rest more : List ℕ) (from n : ℕ) : Type 0 where
  pub later : List ℕ
  pub parts : bytes_in n (drop 9 rest) ++ later ≡ more
  pub reads : reads_to (from + n) (drop (2 * n + 12) rest) ≡ file later

storing-data : {text row₀ row rest digits : List ℕ} {from n : ℕ} (s : Storing text row₀ row rest from) → Piece rest digits n → Data rest s.more from n
storing-data {text} {row₀} {row} {rest} {digits} {from} {n} s p =
    let o = onward-of (next_of from rest s.more s.reads) (omega (arith, p.some, p.count)) in
    record {
      later = o.rest;
      parts = (λ i. bytes_in (p.count i) (drop 9 rest) ++ o.rest) ∙ o.parts;
      reads = (λ i. reads_to (from + p.count i) (drop (2 * p.count i + 12) rest)) ∙ o.reads;
    }

-- Its bytes are bytes, and fit into the row.
pub storing-fits : {text row₀ row rest digits : List ℕ} {from n : ℕ} → Storing text row₀ row rest from → Piece rest digits n →
    (all_bytes (bytes_in (length digits / 2) digits) ≡ true) × (from + n ≤ 8 * length row)
storing-fits {text} {row₀} {row} {rest} {digits} {from} {n} s p =
    let d = storing-data s p in
    let bytes = bytes_in n (drop 9 rest) in (
      ap all_bytes p.bytes ∙ (bytes-split bytes d.later (subst (λ (l : List ℕ). all_bytes l ≡ true) (sym d.parts) s.all)).0,
      omega (arith, s.fits, s.size, ap length d.parts, length-append bytes d.later, in-length n (drop 9 rest)),
    )

-- One record more.
pub storing-more : {text row₀ row after rest behind digits : List ℕ} {from n : ℕ} → Storing text row₀ row rest from → Piece rest digits n →
    after ≡ stored row from (bytes_in (length digits / 2) digits) → behind ≡ drop (2 * n + 12) rest → Storing text row₀ after behind (from + length digits / 2)
storing-more {text} {row₀} {row} {after} {rest} {behind} {digits} {from} {n} s p e f =
    let d = storing-data s p in
    let bytes = bytes_in n (drop 9 rest) in
    let size = in-length n (drop 9 rest) in
    let half : length digits / 2 ≡ n = omega (arith, p.long) in
    let now : after ≡ stored row from bytes = e ∙ ap (stored row from) p.bytes in
    subst (λ (k : ℕ). Storing text row₀ after behind (from + k)) (sym half)
    (record {
      more = d.later;
      reads = (λ i. reads_to (from + n) (f i)) ∙ d.reads;
      all = (bytes-split bytes d.later (subst (λ (l : List ℕ). all_bytes l ≡ true) (sym d.parts) s.all)).1;
      fits = omega (arith, s.fits, ap length d.parts, length-append bytes d.later, size);
      size = ap length now ∙ stored-length row from bytes ∙ s.size;
      whole = (λ i. stored (now i) (from + sym size i) d.later) ∙ sym (stored-append row from bytes d.later) ∙ ap (stored row from) d.parts ∙ s.whole;
    })

-- All of them.
pub storing-ends : {text row₀ row rest : List ℕ} {from : ℕ} → Storing text row₀ row rest from → count_of rest ≡ 0 → row ≡ stored row₀ 0 (read_bytes (parsed text))
unfolding stored
storing-ends {text} {row₀} {row} {rest} {from} s e =
    ap (stored row from) (sym (over-of (next_of from rest s.more s.reads) e)) ∙ s.whole
