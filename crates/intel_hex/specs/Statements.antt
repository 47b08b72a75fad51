-- What is claimed of HEX text, so that both calls can be believed without reading how text is parsed. `proofs/Theorems.antt` proves `HexHolds`.
use Rattle.std.specs.Prelude.{ℕ, ◌+◌, ◌*◌, ◌^◌, ◌≤◌, ◌<◌, ◌≡◌, ◌↔◌, List, [], ◌∷◌, ◌++◌, true, false, length, get_or, take}
use Rattle.text.specs.Ascii.{feed, ':', 'a', 'z'}
use Rattle.board.specs.Causes.{bad_length}
use Rattle.board.specs.Hex.{hex_digit, record_bytes, word_bytes, hex_text, hex_bytes, parsed, file}
use Rattle.board.specs.Hex.{hex_write_cause, hex_read_cause, hex_words, HexWritePerformed, HexReadPerformed}

-- ---- which texts are files

-- `Spells text bytes`: the text writes the bytes, two digits each, the high one first, letters in either case.
pub data Spells : List ℕ → List ℕ → Type 0 where
  none : Spells [] []
  byte : {text bytes : List ℕ} (high low : ℕ) → hex_digit high < 16 → hex_digit low < 16 → Spells text bytes →
      Spells (high ∷ low ∷ text) ((16 * hex_digit high + hex_digit low) ∷ bytes)

-- `HexFile address text bytes`: from `address` on the text holds the bytes: records of 1 to 255 bytes of type 00, each at the address where the last one
-- ended, then the end record, of type 01 and none at address 0, and nothing after it. A record is a colon, its bytes as digits with the right checksum, and
-- a line feed.
pub data HexFile : ℕ → List ℕ → List ℕ → Type 0 where
  ends : {address : ℕ} {digits : List ℕ} → Spells digits (record_bytes 0 1 []) → HexFile address (':' ∷ (digits ++ (feed ∷ []))) []
  holds : {address : ℕ} {digits rest more : List ℕ} (some : List ℕ) → 1 ≤ length some → length some ≤ 255 → Spells digits (record_bytes address 0 some) →
      HexFile (address + length some) rest more → HexFile address (':' ∷ (digits ++ (feed ∷ rest))) (some ++ more)

-- A text reads to bytes exactly where it is a file of them.
abbrev pub ReadsFiles : Type 0
ReadsFiles = (text bytes : List ℕ) → (parsed text ≡ file bytes) ↔ HexFile 0 text bytes

-- ---- what is written reads back

-- Each number is a word.
abbrev pub AllWords : List ℕ → Type 0
AllWords row = (i : ℕ) → get_or row i 0 < 2 ^ 64

-- A memory is written exactly where recovery takes its length and the text row has room for its text.
abbrev pub WriteTaken : Type 0
WriteTaken = (memory text : List ℕ) → (hex_write_cause memory text ≡ 0) ↔ ((bad_length (length memory) ≡ false) × (hex_bytes (length memory) ≤ length text))

-- A memory's text has just the bytes that are asked for.
abbrev pub TextBytes : Type 0
TextBytes = (memory : List ℕ) → bad_length (length memory) ≡ false → length (hex_text memory) ≡ hex_bytes (length memory)

-- "What was written reads back to the same words": reading is taken, and leaves in a row of the memory's length, whatever was there, the memory.
abbrev pub ReadsBack : Type 0
ReadsBack =
    (memory text left row : List ℕ) → AllWords memory → HexWritePerformed memory text 0 left → length row ≡ length memory →
    HexReadPerformed (take (hex_bytes (length memory)) left) row 0 memory

-- ---- one text of each memory is ours

-- How many bytes the data records of a file have, one after the other.
unfoldable pub sizes : {address : ℕ} {text bytes : List ℕ} → HexFile address text bytes → List ℕ
sizes (ends s) = []
sizes (holds some h g s f) = length some ∷ sizes f

-- "only records of 16 bytes before the end record".
abbrev pub OnlySixteens : {address : ℕ} {text bytes : List ℕ} → HexFile address text bytes → Type 0
OnlySixteens f = (i : ℕ) → i < length (sizes f) → get_or (sizes f) i 0 ≡ 16

-- "no lower-case letter".
abbrev pub NoLower : List ℕ → Type 0
NoLower text = (i : ℕ) → 'a' ≤ get_or text i 0 → get_or text i 0 ≤ 'z' → ⊥

-- "of all texts that read to one memory exactly one, ours, has only records of 16 bytes before the end record and no lower-case letter".
pub record Canonical (memory : List ℕ) : Type 0 where
  pub ours : HexFile 0 (hex_text memory) (word_bytes memory)
  pub sixteens : OnlySixteens ours
  pub upper : NoLower (hex_text memory)
  pub only : (text : List ℕ) (f : HexFile 0 text (word_bytes memory)) → OnlySixteens f → NoLower text → text ≡ hex_text memory

-- ---- what is read

-- A memory has eight bytes a word.
abbrev pub EightEach : Type 0
EightEach = (memory : List ℕ) → length (word_bytes memory) ≡ 8 * length memory

-- Reading is taken exactly where the text is a file of the words of a row of this length, one that recovery takes, and leaves these words.
abbrev pub ReadTaken : Type 0
ReadTaken =
    (text row left : List ℕ) → HexReadPerformed text row 0 left ↔
    (AllWords left × (length left ≡ length row) × (bad_length (length row) ≡ false) × HexFile 0 text (word_bytes left))

-- 19 is the answer exactly to a text that is no file, whatever the row.
abbrev pub NoFile : Type 0
NoFile = (text row : List ℕ) → (hex_read_cause text row ≡ 19) ↔ ((bytes : List ℕ) → HexFile 0 text bytes → ⊥)

-- 20 is the answer exactly to a file that the row does not fit.
abbrev pub Misfit : Type 0
Misfit =
    (text row : List ℕ) → (hex_read_cause text row ≡ 20) ↔
    ((bytes : List ℕ) × HexFile 0 text bytes × (bad_length (length row) ≡ false → length bytes ≡ 8 * length row → ⊥))

-- A refused reading leaves the row as it was.
abbrev pub Untouched : Type 0
Untouched = (text row left : List ℕ) (number : ℕ) → HexReadPerformed text row number left → (number ≡ 0 → ⊥) → left ≡ row

-- 20 comes before 12: a length that recovery does not take, then a text row too short.
abbrev pub WriteRefused : Type 0
WriteRefused =
    (memory text : List ℕ) →
    ((hex_write_cause memory text ≡ 20) ↔ (bad_length (length memory) ≡ true))
    × ((hex_write_cause memory text ≡ 12) ↔ ((bad_length (length memory) ≡ false) × (length text < hex_bytes (length memory))))

-- A text is read into rows of one length alone, and `hex_words` tells it.
abbrev pub WordsHeld : Type 0
WordsHeld = (text row : List ℕ) → hex_read_cause text row ≡ 0 → hex_words text ≡ length row

-- All that is claimed of HEX text.
pub record HexHolds : Type 0 where
  pub files : ReadsFiles
  pub written : WriteTaken
  pub room : TextBytes
  pub back : ReadsBack
  pub canonical : (memory : List ℕ) → bad_length (length memory) ≡ false → Canonical memory
  pub eight : EightEach
  pub taken : ReadTaken
  pub none : NoFile
  pub misfit : Misfit
  pub untouched : Untouched
  pub refused : WriteRefused
  pub words : WordsHeld
