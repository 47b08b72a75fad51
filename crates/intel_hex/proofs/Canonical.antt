-- A memory's text is a file of its words, and the only one with records of 16 bytes and upper-case letters.
use Prim.Native.Nat.{ℕ, zero, suc, ◌+◌, ◌*◌, ◌/◌, ◌%◌, ◌≤◌, ◌<◌}
use mathlib.Core.Path.{◌≡◌, refl, sym, ap, ap₂, subst, subst₂, ◌∙◌}
use mathlib.Core.List.{List, [], ◌∷◌, ◌++◌}
use mathlib.Core.Bool.{true, false}
use native.Mathlib.Omega.{arith}
use lib.ListN.{length, get_or, take, drop, length-append}
use lib.Seq.{take_at, drop_at, append_snoc}
use Rattle.text.specs.Ascii.{feed, ':', 'a'}
use Rattle.board.specs.Causes.{bad_length}
use Rattle.board.specs.Hex.{bytes_text, check_byte, record_bytes, record_text, all_bytes, word_bytes, hex_from, hex_text, hex_bytes}
use Rattle.intel_hex.specs.Statements.{HexFile, ends, holds, sizes, OnlySixteens, NoLower, Canonical}
use Rattle.intel_hex.proofs.Words.{bytes-none, bytes-more, bytes-append, eight-each, words-bytes, words_append}
use Rattle.intel_hex.proofs.Spelling.{text-spells, upper-left, upper-right, upper-append, text-upper, spells-upper}
use Rattle.intel_hex.proofs.Files.{record-long}
use Rattle.intel_hex.proofs.Written.{good_length}

-- ---- one record

-- A record's bytes are bytes.
record-bytes : (address type : ℕ) (some : List ℕ) → address < 65536 → type < 256 → length some < 256 → all_bytes some ≡ true →
    all_bytes (record_bytes address type some) ≡ true
record-bytes address type some h g f e =
    let front = length some ∷ address / 256 ∷ address % 256 ∷ type ∷ some in
    let check = bytes-more (check_byte front) [] (omega arith) bytes-none in
    bytes-more (length some) _ f
    (bytes-more (address / 256) _ (omega arith)
    (bytes-more (address % 256) _ (omega arith)
    (bytes-more type _ g (bytes-append some (check_byte front ∷ []) e check))))

-- Text behind a record's.
record-then : (address type : ℕ) (some more : List ℕ) →
    ':' ∷ (bytes_text (record_bytes address type some) ++ (feed ∷ more)) ≡ record_text address type some ++ more
unfolding record_text
record-then address type some more = sym (append_snoc (':' ∷ bytes_text (record_bytes address type some)) feed more)

-- A character below the lower-case letters in front of a text without any.
upper-more : (c : ℕ) (text : List ℕ) → c < 'a' → NoLower text → NoLower (c ∷ text)
upper-more c text h upper zero p q = absurd (omega arith)
upper-more c text h upper (suc i) p q = upper i p q

-- A record as it is written, in front of a text without a lower-case letter.
record-upper : (bytes more : List ℕ) → all_bytes bytes ≡ true → NoLower more → NoLower (':' ∷ (bytes_text bytes ++ (feed ∷ more)))
record-upper bytes more e upper =
    upper-more ':' (bytes_text bytes ++ (feed ∷ more)) (omega arith)
    (upper-append (bytes_text bytes) (feed ∷ more) (text-upper bytes e) (upper-more feed more (omega arith) upper))

-- ---- the memory's text

-- A text of words in records of 16 bytes, without a lower-case letter, as long as it must be.
pub record Ours (address words : ℕ) (text bytes : List ℕ) : Type 0 where
  pub file : HexFile address text bytes
  pub sixteens : OnlySixteens file
  pub upper : NoLower text
  pub long : length text ≡ hex_bytes words

-- One more record of 16 bytes.
sixteen-more : (n : ℕ) (l : List ℕ) → n ≡ 16 → ((i : ℕ) → i < length l → get_or l i 0 ≡ 16) → (i : ℕ) → i < length (n ∷ l) → get_or (n ∷ l) i 0 ≡ 16
sixteen-more n l e rest zero h = e
sixteen-more n l e rest (suc i) h = rest i (omega arith)

-- The text of an even number of words is one.
our-text : (address : ℕ) (memory : List ℕ) → length memory % 2 ≡ 0 → address + 8 * length memory ≤ 65536 →
    Ours address (length memory) (hex_from address memory) (word_bytes memory)
unfolding hex_from record_text word_bytes sizes
our-text address [] e h =
    let bytes = record-bytes 0 1 [] (omega arith) (omega arith) (omega arith) bytes-none in
    let spells = text-spells (record_bytes 0 1 []) bytes in
    record {
      file = ends spells;
      sixteens = (λ i g. absurd (omega arith));
      upper = record-upper (record_bytes 0 1 []) [] bytes (λ i p q. omega arith);
      long = record-long 0 1 [] [] spells;
    }
our-text address (v ∷ []) e h = absurd (omega arith)
our-text address (v ∷ w ∷ rest) e h =
    let some = word_bytes (v ∷ w ∷ []) in
    let size : length some ≡ 16 = eight-each (v ∷ w ∷ []) in
    let bytes = record-bytes address 0 some (omega arith) (omega arith) (omega arith) (words-bytes (v ∷ w ∷ [])) in
    let spells = text-spells (record_bytes address 0 some) bytes in
    let more = hex_from (address + 16) rest in
    let r = subst (λ (k : ℕ). Ours (address + k) (length rest) more (word_bytes rest)) (sym size) (our-text (address + 16) rest (omega arith) (omega arith)) in
    subst₂
    (Ours address (suc (suc (length rest))))
    (record-then address 0 some more)
    (sym (words_append (v ∷ w ∷ []) rest))
    record {
      file = holds some (omega arith) (omega arith) spells r.file;
      sixteens = sixteen-more (length some) (sizes r.file) size r.sixteens;
      upper = record-upper (record_bytes address 0 some) more bytes r.upper;
      long = omega (arith, record-long address 0 some more spells, r.long);
    }

-- ---- it is the only one

-- The bytes of no word: there is no word.
no_words : (memory : List ℕ) → [] ≡ word_bytes memory → memory ≡ []
no_words [] e = refl
no_words (w ∷ ws) e = absurd (omega (arith, eight-each (w ∷ ws), ap length e))

-- Two words whose bytes come first, and the words behind them.
record Two (memory some more : List ℕ) : Type 0 where
  first : ℕ
  second : ℕ
  later : List ℕ
  words : memory ≡ first ∷ second ∷ later
  front : some ≡ word_bytes (first ∷ second ∷ [])
  back : more ≡ word_bytes later
  even : length later % 2 ≡ 0

-- The first 16 bytes of an even number of words are two words'.
two-words : (memory some more : List ℕ) → length memory % 2 ≡ 0 → length some ≡ 16 → some ++ more ≡ word_bytes memory → Two memory some more
two-words [] some more e h b = absurd (omega (arith, ap length b, length-append some more, eight-each []))
two-words (v ∷ []) some more e h b = absurd (omega arith)
two-words (v ∷ w ∷ rest) some more e h b =
    let front = word_bytes (v ∷ w ∷ []) in
    let size = eight-each (v ∷ w ∷ []) in
    let both = b ∙ words_append (v ∷ w ∷ []) rest in
    record {
      first = v;
      second = w;
      later = rest;
      words = refl;
      front = sym (take_at some more 16 h) ∙ ap (take 16) both ∙ take_at front (word_bytes rest) 16 size;
      back = sym (drop_at some more 16 h) ∙ ap (drop 16) both ∙ drop_at front (word_bytes rest) 16 size;
      even = omega arith;
    }

-- Digits and a rest that are ours make our text.
next-ours : {memory some more : List ℕ} (address : ℕ) (digits rest : List ℕ) (two : Two memory some more) → length some ≡ 16 →
    digits ≡ bytes_text (record_bytes address 0 some) → rest ≡ hex_from (address + length some) two.later →
    ':' ∷ (digits ++ (feed ∷ rest)) ≡ hex_from address memory
unfolding hex_from
next-ours {some = some} address digits rest two size d r =
    let next = hex_from (address + 16) two.later in
    ap₂ (λ (d r : List ℕ). ':' ∷ (d ++ (feed ∷ r))) d (r ∙ ap (λ (k : ℕ). hex_from (address + k) two.later) size)
    ∙ record-then address 0 some next
    ∙ ap (λ (l : List ℕ). record_text address 0 l ++ next) two.front
    ∙ ap (hex_from address) (sym two.words)

-- A file of a memory in records of 16 bytes without a lower-case letter is the memory's text.
only-ours : {address : ℕ} {text bytes : List ℕ} (f : HexFile address text bytes) → OnlySixteens f → NoLower text →
    (memory : List ℕ) → length memory % 2 ≡ 0 → bytes ≡ word_bytes memory → text ≡ hex_from address memory
unfolding hex_from record_text sizes
only-ours (ends {address = address} {digits = digits} s) sixteens upper memory e b =
    ap (λ (l : List ℕ). ':' ∷ (l ++ (feed ∷ []))) (spells-upper s (upper-left digits (feed ∷ []) (λ i. upper (suc i))))
    ∙ ap (hex_from address) (sym (no_words memory b))
only-ours (holds {address = address} {digits = digits} {rest = rest} {more = more} some least most s f) sixteens upper memory e b =
    let size : length some ≡ 16 = sixteens 0 (omega arith) in
    let two = two-words memory some more e size b in
    let behind = upper-right digits (feed ∷ rest) (λ i. upper (suc i)) in
    next-ours address digits rest two size
    (spells-upper s (upper-left digits (feed ∷ rest) (λ i. upper (suc i))))
    (only-ours f (λ i h. sixteens (suc i) (omega arith)) (λ i. behind (suc i)) two.later two.even two.back)

-- ---- a length that recovery takes

-- The text of a memory of such a length.
pub memory-text : (memory : List ℕ) → bad_length (length memory) ≡ false → Ours 0 (length memory) (hex_text memory) (word_bytes memory)
memory-text memory e = let t = good_length (length memory) e in our-text 0 memory (omega arith) (omega arith)

-- It is the only one of its kind.
pub canonical : (memory : List ℕ) → bad_length (length memory) ≡ false → Canonical memory
canonical memory e =
    let o = memory-text memory e in
    let t = good_length (length memory) e in
    record {
      ours = o.file;
      sixteens = o.sixteens;
      upper = o.upper;
      only = (λ text f sixteens upper. only-ours f sixteens upper memory (omega arith) refl);
    }
