-- Document 02, ticket 9, "Intel HEX of the memory": the text of a memory, which texts are read and to which bytes, why either call is turned down, and what
-- it leaves.
use Rattle.std.specs.Prelude.{ℕ, zero, suc, ◌+◌, ◌*◌, ◌-◌, ◌/◌, ◌%◌, ◌≡◌, List, [], ◌∷◌, ◌++◌, Bool, true, false, cond, not, ◌&&◌, ◌||◌, leb, ltb, eqb, length, get_or, take, drop}
use Rattle.text.specs.Ascii.{feed, ':', '0', '9', 'A', 'F', 'a', 'f'}
use Rattle.text.specs.Writing.{put}
use Rattle.board.specs.Causes.{Cause, check, bad_length, first_standing}

-- ---- how a memory is written

-- "upper-case digits": the character of a hexadecimal digit.
abbrev pub hex_character : ℕ → ℕ
hex_character d = cond (ltb d 10) ('0' + d) ('A' + (d - 10))

-- Bytes as digits, two each, the high one first.
unfoldable pub bytes_text : List ℕ → List ℕ
bytes_text [] = []
bytes_text (b ∷ bs) = hex_character (b / 16) ∷ hex_character (b % 16) ∷ bytes_text bs

-- The sum of bytes.
unfoldable pub sum_of : List ℕ → ℕ
sum_of [] = 0
sum_of (b ∷ bs) = b + sum_of bs

-- The byte that makes the sum a multiple of 256.
abbrev pub check_byte : List ℕ → ℕ
check_byte bytes = (256 - sum_of bytes % 256) % 256

-- A record's bytes: how many bytes of data there are, the address, the type, the data; and the checksum.
abbrev pub record_bytes : ℕ → ℕ → List ℕ → List ℕ
record_bytes address type bytes =
    let front = length bytes ∷ address / 256 ∷ address % 256 ∷ type ∷ bytes in front ++ (check_byte front ∷ [])

-- A record's text: a colon, its bytes as digits, a line feed.
unfoldable pub record_text : ℕ → ℕ → List ℕ → List ℕ
record_text address type bytes = ':' ∷ (bytes_text (record_bytes address type bytes) ++ (feed ∷ []))

-- The low `n` bytes of a number, the lowest first.
unfoldable pub low_bytes : ℕ → ℕ → List ℕ
low_bytes zero w = []
low_bytes (suc n) w = w % 256 ∷ low_bytes n (w / 256)

-- "words low byte first": the bytes of words.
unfoldable pub word_bytes : List ℕ → List ℕ
word_bytes [] = []
word_bytes (w ∷ ws) = low_bytes 8 w ++ word_bytes ws

-- "in records of 16 bytes, addresses rising .. then the end record": words as text from `address` on. A last word alone, which no length that recovery takes
-- leaves, has a record of its own.
unfoldable pub hex_from : ℕ → List ℕ → List ℕ
hex_from address [] = record_text 0 1 []
hex_from address (v ∷ []) = record_text address 0 (word_bytes (v ∷ [])) ++ record_text 0 1 []
hex_from address (v ∷ w ∷ rest) = record_text address 0 (word_bytes (v ∷ w ∷ [])) ++ hex_from (address + 16) rest

-- "addresses rising from 0": the text of a memory.
abbrev pub hex_text : List ℕ → List ℕ
hex_text memory = hex_from 0 memory

-- ---- which texts are read

-- "letters in either case": the digit that a character stands for; 16 for one that is none.
abbrev pub hex_digit : ℕ → ℕ
hex_digit c =
    cond (leb '0' c && leb c '9') (c - '0')
    (cond (leb 'A' c && leb c 'F') (c - 'A' + 10)
    (cond (leb 'a' c && leb c 'f') (c - 'a' + 10) 16))

-- The byte that two characters write; 256 where one of them is no digit.
unfoldable pub byte_of : ℕ → ℕ → ℕ
byte_of high low = cond (ltb (hex_digit high) 16 && ltb (hex_digit low) 16) (16 * hex_digit high + hex_digit low) 256

-- The first `n` bytes that a text's characters write, two each; past its end there is no digit.
unfoldable pub bytes_in : ℕ → List ℕ → List ℕ
bytes_in zero text = []
bytes_in (suc n) text = byte_of (get_or text 0 0) (get_or text 1 0) ∷ bytes_in n (drop 2 text)

-- Each number is a byte.
unfoldable pub all_bytes : List ℕ → Bool
all_bytes [] = true
all_bytes (b ∷ bs) = ltb b 256 && all_bytes bs

-- How many bytes of data the record at a text's front says that it has.
abbrev pub count_of : List ℕ → ℕ
count_of text = byte_of (get_or text 1 0) (get_or text 2 0)

-- Its bytes: count, address, type, data and checksum.
abbrev pub bytes_of : List ℕ → List ℕ
bytes_of text = bytes_in (count_of text + 5) (drop 1 text)

-- Its address.
abbrev pub address_of : List ℕ → ℕ
address_of text = 256 * get_or (bytes_of text) 1 0 + get_or (bytes_of text) 2 0

-- Its type.
abbrev pub type_of : List ℕ → ℕ
type_of text = get_or (bytes_of text) 3 0

-- Its data.
abbrev pub data_of : List ℕ → List ℕ
data_of text = take (count_of text) (drop 4 (bytes_of text))

-- How many characters it takes: a colon, two for each byte, the line feed.
abbrev pub record_length : List ℕ → ℕ
record_length text = 2 * count_of text + 12

-- There is a record at the text's front: a colon, digits, a checksum that is right, "lines ended by line feeds".
unfoldable pub has_record : List ℕ → Bool
has_record text =
    eqb (get_or text 0 0) ':' && all_bytes (bytes_of text) && eqb (sum_of (bytes_of text) % 256) 0
    && eqb (get_or text (2 * count_of text + 11) 0) feed

-- "types 00, of 1 to 255 bytes, .. each address where the last record ended".
unfoldable pub has_data : ℕ → List ℕ → Bool
has_data address text =
    has_record text && eqb (type_of text) 0 && ltb 0 (count_of text) && eqb (address_of text) address

-- "and 01, of none at address 0, .. nothing after the end record".
unfoldable pub has_end : List ℕ → Bool
has_end text =
    has_record text && eqb (type_of text) 1 && eqb (count_of text) 0 && eqb (address_of text) 0 && eqb (length text) 12

-- What a text reads to: bytes, or it "isn't such a file".
pub data Parsed : Type 0 where
  no_file : Parsed
  file : List ℕ → Parsed

-- Bytes in front of what follows.
abbrev pub in_front : List ℕ → Parsed → Parsed
in_front bytes no_file = no_file
in_front bytes (file more) = file (bytes ++ more)

-- What a text reads to from `address` on; `most` bounds how many records there are.
unfoldable pub parsed_from : ℕ → ℕ → List ℕ → Parsed
parsed_from zero address text = no_file
parsed_from (suc most) address text =
    cond (has_end text) (file [])
    (cond (has_data address text) (in_front (data_of text) (parsed_from most (address + count_of text) (drop (record_length text) text))) no_file)

-- "the first 0": what a text reads to. A record has at least one character.
unfoldable pub parsed : List ℕ → Parsed
parsed text = parsed_from (length text) 0 text

-- The number that bytes write, the lowest first.
unfoldable pub word_of : List ℕ → ℕ
word_of [] = 0
word_of (b ∷ bs) = b + 256 * word_of bs

-- The first `n` words that bytes write, eight each.
unfoldable pub words_of : ℕ → List ℕ → List ℕ
words_of zero bytes = []
words_of (suc n) bytes = word_of (take 8 bytes) ∷ words_of n (drop 8 bytes)

-- ---- the calls

-- The bytes of a memory's text: 44 for two words, and the end record.
abbrev pub hex_bytes : ℕ → ℕ
hex_bytes words = 22 * words + 12

-- "20 for a length that recovery would not take .., 12 for a text row too short": what can turn writing down.
unfoldable pub hex_write_causes : List ℕ → List ℕ → List Cause
hex_write_causes memory text =
    check 20 (bad_length (length memory))
    ∷ check 12 (ltb (length text) (hex_bytes (length memory)))
    ∷ []

-- The number that writing returns.
unfoldable pub hex_write_cause : List ℕ → List ℕ → ℕ
hex_write_cause memory text = first_standing (hex_write_causes memory text)

-- The text row that writing leaves: the memory's text at its front; all as it was where it is refused.
unfoldable pub hex_write_left : List ℕ → List ℕ → List ℕ
hex_write_left memory text = cond (eqb (hex_write_cause memory text) 0) (put text 0 (hex_text memory)) text

-- "text that isn't such a file".
abbrev pub is_no_file : Parsed → Bool
is_no_file no_file = true
is_no_file (file bytes) = false

-- The bytes read, none where there are none to be read.
abbrev pub read_bytes : Parsed → List ℕ
read_bytes no_file = []
read_bytes (file bytes) = bytes

-- How many words a text holds; 0 where it is no file or its bytes are no whole words.
unfoldable pub hex_words : List ℕ → ℕ
hex_words text = let n = length (read_bytes (parsed text)) in cond (eqb (n % 8) 0) (n / 8) 0

-- "a length that recovery would not take or the lent row doesn't have": a row that recovery takes, and bytes for just its words, leave neither.
abbrev pub misfits : List ℕ → List ℕ → Bool
misfits bytes row = bad_length (length row) || not (eqb (length bytes) (8 * length row))

-- "19 .., 20 .., in that order": what can turn reading down.
unfoldable pub hex_read_causes : List ℕ → List ℕ → List Cause
hex_read_causes text row =
    check 19 (is_no_file (parsed text))
    ∷ check 20 (misfits (read_bytes (parsed text)) row)
    ∷ []

-- The number that reading returns.
unfoldable pub hex_read_cause : List ℕ → List ℕ → ℕ
hex_read_cause text row = first_standing (hex_read_causes text row)

-- The row that reading leaves: the words of the text; all as it was where it is refused.
unfoldable pub hex_read_left : List ℕ → List ℕ → List ℕ
hex_read_left text row = cond (eqb (hex_read_cause text row) 0) (words_of (length row) (read_bytes (parsed text))) row

-- ---- what the contracts say

-- The complete outcome of writing: number and each byte of the text row. The memory is only looked at.
pub record HexWritten : Type 0 where
  pub number : ℕ
  pub text : List ℕ

-- The outcome that writing must have, taken or refused.
abbrev pub hex_written : List ℕ → List ℕ → HexWritten
hex_written memory text = record { number = hex_write_cause memory text; text = hex_write_left memory text }

-- Writing `memory` into the text row `text` gave back `number` and left the text row `left`.
abbrev pub HexWritePerformed : List ℕ → List ℕ → ℕ → List ℕ → Type 0
HexWritePerformed memory text number left = record { number = number; text = left } ≡ hex_written memory text

-- The complete outcome of reading: number and each word of the row. The text is only looked at.
pub record HexRead : Type 0 where
  pub number : ℕ
  pub row : List ℕ

-- The outcome that reading must have, taken or refused.
abbrev pub hex_read : List ℕ → List ℕ → HexRead
hex_read text row = record { number = hex_read_cause text row; row = hex_read_left text row }

-- Reading `text` into the row `row` gave back `number` and left the row `left`.
abbrev pub HexReadPerformed : List ℕ → List ℕ → ℕ → List ℕ → Type 0
HexReadPerformed text row number left = record { number = number; row = left } ≡ hex_read text row
