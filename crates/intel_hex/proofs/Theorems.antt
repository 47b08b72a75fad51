-- Proves what is claimed of HEX text.
use Prim.Native.Nat.{ℕ, ◌+◌, ◌*◌, ◌/◌, ◌%◌, ◌<◌}
use mathlib.Core.Path.{◌≡◌, refl, sym, ap, ap₂, subst, ◌∙◌}
use mathlib.Core.List.{List}
use mathlib.Core.Bool.{Bool, true, false, cond}
use native.Mathlib.Omega.{arith}
use lib.Dec.{eqb, ltb}
use lib.ListN.{length, take, drop}
use lib.Seq.{take_at}
use borrow.Author.Tests.{ltb-true, ltb-false, lt-ltb, le-ltb, eqb-true, eq-eqb, ne_eqb}
use Rattle.predicate.proofs.Bools.{split, chosen, passed_over, clash, or_left, or_right, or-none, not-off, not_on_lem}
use Rattle.text.specs.Writing.{put}
use Rattle.board.specs.Causes.{bad_length, first_standing}
use Rattle.board.specs.Hex.{word_bytes, words_of, hex_text, hex_bytes, Parsed, file, parsed, is_no_file, read_bytes, misfits}
use Rattle.board.specs.Hex.{hex_write_cause, hex_write_causes, hex_write_left, hex_read_cause, hex_read_causes, hex_read_left, hex_words, HexRead, HexWritten, HexReadPerformed}
use Rattle.intel_hex.specs.Statements.{HexFile, AllWords, WriteTaken, TextBytes, ReadsBack, ReadTaken, NoFile, Misfit, Untouched, WriteRefused, WordsHeld, HexHolds}
use Rattle.intel_hex.proofs.Parsing.{is-file}
use Rattle.intel_hex.proofs.Words.{eight-each, words_back, words-length, bytes_back, all_words}
use Rattle.intel_hex.proofs.Files.{file-bytes, reads-files}
use Rattle.intel_hex.proofs.Canonical.{memory-text, canonical}

-- ---- two causes

-- 0 is given where neither stands.
neither : (a b : ℕ) (t u : Bool) → 0 < a → 0 < b → cond t a (cond u b 0) ≡ 0 → (t ≡ false) × (u ≡ false)
neither a b true u h g e = absurd (omega arith)
neither a b false true h g e = absurd (omega arith)
neither a b false false h g e = (refl, refl)

-- The first one's number is given where it stands.
first-stands : (a b : ℕ) (t u : Bool) → (a ≡ b → ⊥) → 0 < a → cond t a (cond u b 0) ≡ a → t ≡ true
first-stands a b true u d h e = refl
first-stands a b false true d h e = absurd (d (sym e))
first-stands a b false false d h e = absurd (omega arith)

-- The second one's number is given where it stands and the first does not.
second-stands : (a b : ℕ) (t u : Bool) → (a ≡ b → ⊥) → 0 < b → cond t a (cond u b 0) ≡ b → (t ≡ false) × (u ≡ true)
second-stands a b true u d h e = absurd (d e)
second-stands a b false true d h e = (refl, refl)
second-stands a b false false d h e = absurd (omega arith)

-- ---- writing

-- A memory is written exactly where recovery takes its length and the text row has room.
write-taken : WriteTaken
unfolding hex_write_cause hex_write_causes first_standing
write-taken memory text =
    let bad = bad_length (length memory) in
    let room = hex_bytes (length memory) in
    let short = ltb (length text) room in (
      (λ e. let none = neither 20 12 bad short (omega arith) (omega arith) e in (none.0, ltb-false (length text) room none.1)),
      (λ h. passed_over bad _ _ h.0 ∙ passed_over short _ _ (le-ltb (length text) room h.1)),
    )

-- 20 comes before 12.
write-refused : WriteRefused
unfolding hex_write_cause hex_write_causes first_standing
write-refused memory text =
    let bad = bad_length (length memory) in
    let room = hex_bytes (length memory) in
    let short = ltb (length text) room in (
      ((λ e. first-stands 20 12 bad short (λ d. omega arith) (omega arith) e), (λ h. chosen bad _ _ h)),
      (
        (λ e. let s = second-stands 20 12 bad short (λ d. omega arith) (omega arith) e in (s.0, ltb-true (length text) room s.1)),
        (λ h. passed_over bad _ _ h.0 ∙ chosen short _ _ (lt-ltb (length text) room h.1)),
      ),
    )

-- A memory's text has just the bytes that are asked for.
text-bytes : TextBytes
text-bytes memory e = (memory-text memory e).long

-- ---- reading

-- What is not turned down as no file is one.
-- A row is left with the words of the text where reading is taken.
left-words : (text row : List ℕ) → hex_read_cause text row ≡ 0 → hex_read_left text row ≡ words_of (length row) (read_bytes (parsed text))
unfolding hex_read_left
left-words text row e = chosen (eqb (hex_read_cause text row) 0) _ row (eq-eqb (hex_read_cause text row) 0 e)

-- Where reading is taken, the text is a file of the words of the row.
taken-file : (text row left : List ℕ) → HexReadPerformed text row 0 left →
    AllWords left × (length left ≡ length row) × (bad_length (length row) ≡ false) × HexFile 0 text (word_bytes left)
unfolding hex_read_cause hex_read_causes first_standing
taken-file text row left e =
    let n = length row in
    let bytes = read_bytes (parsed text) in
    let taken : hex_read_cause text row ≡ 0 = sym (ap (λ (r : HexRead). r.number) e) in
    let none = neither 19 20 (is_no_file (parsed text)) (misfits bytes row) (omega arith) (omega arith) taken in
    let f = (reads-files text bytes).0 (is-file (parsed text) none.0) in
    let fills = eqb-true (length bytes) (8 * n) (not-off _ (or_right (bad_length n) _ none.1)) in
    let is : left ≡ words_of n bytes = ap (λ (r : HexRead). r.row) e ∙ left-words text row taken in (
      subst AllWords (sym is) (all_words n bytes fills (file-bytes f)),
      ap length is ∙ words-length n bytes,
      or_left (bad_length n) _ none.1,
      subst (HexFile 0 text) (sym (ap word_bytes is ∙ bytes_back n bytes fills (file-bytes f))) f,
    )

-- A file of the words of a row is read.
file-taken : (text row left : List ℕ) → AllWords left → length left ≡ length row → bad_length (length row) ≡ false → HexFile 0 text (word_bytes left) →
    HexReadPerformed text row 0 left
unfolding hex_read_cause hex_read_causes first_standing
file-taken text row left words size good f =
    let is : parsed text ≡ file (word_bytes left) = (reads-files text (word_bytes left)).1 f in
    let fills : length (word_bytes left) ≡ 8 * length row = omega (arith, eight-each left) in
    let fits : misfits (word_bytes left) row ≡ false =
    or-none (bad_length (length row)) _ good (not_on_lem _ (eq-eqb (length (word_bytes left)) (8 * length row) fills)) in
    let taken : hex_read_cause text row ≡ 0 =
    passed_over (is_no_file (parsed text)) _ _ (ap is_no_file is)
    ∙ passed_over (misfits (read_bytes (parsed text)) row) _ _ (ap (λ (p : Parsed). misfits (read_bytes p) row) is ∙ fits) in
    let row-left : hex_read_left text row ≡ left =
    left-words text row taken ∙ ap₂ (λ (k : ℕ) (p : Parsed). words_of k (read_bytes p)) (sym size) is ∙ words_back left words in
    λ i. record { number = sym taken i; row = sym row-left i }

-- Reading is taken exactly where the text is a file of the words of a row of this length, and leaves these words.
read_taken_lem : ReadTaken
read_taken_lem text row left = (taken-file text row left, (λ h. file-taken text row left h.0 h.1 h.2 h.3))

-- The row of a reading that is taken has the words that the text holds.
words-held : WordsHeld
unfolding hex_read_cause hex_read_causes hex_words first_standing
words-held text row e =
    let bytes = read_bytes (parsed text) in
    let none = neither 19 20 (is_no_file (parsed text)) (misfits bytes row) (omega arith) (omega arith) e in
    let fills = eqb-true (length bytes) (8 * length row) (not-off _ (or_right (bad_length (length row)) _ none.1)) in
    let words : length bytes / 8 ≡ length row = omega arith in
    chosen (eqb (length bytes % 8) 0) _ _ (eq-eqb (length bytes % 8) 0 (omega arith)) ∙ words

-- 19 is the answer exactly to a text that is no file.
no-file : NoFile
unfolding hex_read_cause hex_read_causes first_standing
no-file text row =
    let none = is_no_file (parsed text) in
    let bytes = read_bytes (parsed text) in (
      (λ e some f. clash (first-stands 19 20 none (misfits bytes row) (λ d. omega arith) (omega arith) e) (ap is_no_file ((reads-files text some).1 f))),
      (λ h. split none (λ t. chosen none _ _ t) (λ t. absurd (h bytes ((reads-files text bytes).0 (is-file (parsed text) t))))),
    )

-- 20 is the answer exactly to a file that the row does not fit.
misfit : Misfit
unfolding hex_read_cause hex_read_causes first_standing
misfit text row =
    let n = length row in
    let none = is_no_file (parsed text) in
    let bytes = read_bytes (parsed text) in (
      (λ e.
          let s = second-stands 19 20 none (misfits bytes row) (λ d. omega arith) (omega arith) e in (
            bytes,
            (reads-files text bytes).0 (is-file (parsed text) s.0),
            (λ good fills. clash s.1 (or-none (bad_length n) _ good (not_on_lem _ (eq-eqb (length bytes) (8 * n) fills)))),
          )),
      (λ h.
          let is = (reads-files text h.0).1 h.1 in
          let all = h.0 in
          passed_over none _ _ (ap is_no_file is)
          ∙ ap (λ (p : Parsed). cond (misfits (read_bytes p) row) 20 0) is
          ∙ split (misfits all row) (λ t. chosen (misfits all row) 20 0 t)
          (λ t. absurd (h.2 (or_left (bad_length n) _ t) (eqb-true (length all) (8 * n) (not-off _ (or_right (bad_length n) _ t)))))),
    )

-- A refused reading leaves the row as it was.
untouched : Untouched
unfolding hex_read_left
untouched text row left number e h =
    ap (λ (r : HexRead). r.row) e
    ∙ passed_over (eqb (hex_read_cause text row) 0) _ row
    (ne_eqb (hex_read_cause text row) 0 (λ z. h (ap (λ (r : HexRead). r.number) e ∙ z)))

-- ---- what was written

-- What was written reads back to the same words.
reads-back : ReadsBack
unfolding hex_write_left
reads-back memory text left row words e size =
    let n = length memory in
    let taken : hex_write_cause memory text ≡ 0 = sym (ap (λ (w : HexWritten). w.number) e) in
    let good = ((write-taken memory text).0 taken).0 in
    let is : left ≡ put text 0 (hex_text memory) =
    ap (λ (w : HexWritten). w.text) e ∙ chosen (eqb (hex_write_cause memory text) 0) _ text (eq-eqb (hex_write_cause memory text) 0 taken) in
    let same : take (hex_bytes n) left ≡ hex_text memory =
    ap (take (hex_bytes n)) is ∙ take_at (hex_text memory) (drop (0 + length (hex_text memory)) text) (hex_bytes n) (text-bytes memory good) in
    subst (λ (t : List ℕ). HexReadPerformed t row 0 memory) (sym same)
    (file-taken (hex_text memory) row memory words (sym size) (subst (λ (k : ℕ). bad_length k ≡ false) (sym size) good) (memory-text memory good).file)

-- ---- all of it

pub hex-holds : HexHolds
hex-holds =
    record {
      files = reads-files;
      written = write-taken;
      room = text-bytes;
      back = reads-back;
      canonical = canonical;
      eight = eight-each;
      taken = read_taken_lem;
      none = no-file;
      misfit = misfit;
      untouched = untouched;
      refused = write-refused;
      words = words-held;
    }
