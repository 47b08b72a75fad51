-- Document 02, ticket 9: a memory's text worked out, and texts and memories that are turned down and just taken.
use Rattle.std.specs.Prelude.{ℕ, ◌+◌, ◌*◌, ◌≡◌, Bool, true, cond, ◌&&◌, eqb, take, drop, set, replicate}
use mathlib.Core.List.{List, [], ◌∷◌, ◌++◌, flatten}
use Rattle.text.specs.Ascii.{feed, blank, ':', '0'}
use Rattle.board.specs.Bench.{same}
use Rattle.board.specs.Hex.{hex_text, hex_write_cause, hex_write_left, hex_read_cause, hex_read_left}

-- ---- a text worked out

-- L = 2, W = 3, in epoch 1: cell 1 holds 0xFEDCBA9876543210 and cell 3 0x0123456789ABCDEF.
abbrev pub worked_memory : List ℕ
worked_memory =
    (1 ∷ 2 ∷ 3 ∷ 0 ∷ 0 ∷ 0 ∷ 0 ∷ 0 ∷ [])
    ++ (0 ∷ 0 ∷ 0 ∷ 18364758544493064720 ∷ 0 ∷ 1 ∷ 0 ∷ 0 ∷ [])
    ++ (0 ∷ 0 ∷ 0 ∷ 81985529216486895 ∷ 0 ∷ 1 ∷ 0 ∷ 0 ∷ [])

-- Its text, as the second program writes it.
abbrev pub worked_records : List (List ℕ)
worked_records =
    -- ":1000000001000000000000000200000000000000ED"
    ((58 ∷ 49 ∷ []) ++ replicate 8 '0' ++ (49 ∷ []) ++ replicate 15 '0' ++ (50 ∷ []) ++ replicate 14 '0' ++ (69 ∷ 68 ∷ feed ∷ [])) ∷
    -- ":1000100003000000000000000000000000000000DD"
    ((58 ∷ 49 ∷ 48 ∷ 48 ∷ 48 ∷ 49 ∷ 48 ∷ 48 ∷ 48 ∷ 48 ∷ 51 ∷ []) ++ replicate 30 '0' ++ (68 ∷ 68 ∷ feed ∷ [])) ∷
    -- ":1000200000000000000000000000000000000000D0"
    ((58 ∷ 49 ∷ 48 ∷ 48 ∷ 48 ∷ 50 ∷ []) ++ replicate 35 '0' ++ (68 ∷ 48 ∷ feed ∷ [])) ∷
    -- ":1000300000000000000000000000000000000000C0"
    ((58 ∷ 49 ∷ 48 ∷ 48 ∷ 48 ∷ 51 ∷ []) ++ replicate 35 '0' ++ (67 ∷ 48 ∷ feed ∷ [])) ∷
    -- ":1000400000000000000000000000000000000000B0"
    ((58 ∷ 49 ∷ 48 ∷ 48 ∷ 48 ∷ 52 ∷ []) ++ replicate 35 '0' ++ (66 ∷ 48 ∷ feed ∷ [])) ∷
    -- ":1000500000000000000000001032547698BADCFE68"
    ((58 ∷ 49 ∷ 48 ∷ 48 ∷ 48 ∷ 53 ∷ []) ++ replicate 19 '0'
    ++ (49 ∷ 48 ∷ 51 ∷ 50 ∷ 53 ∷ 52 ∷ 55 ∷ 54 ∷ 57 ∷ 56 ∷ 66 ∷ 65 ∷ 68 ∷ 67 ∷ 70 ∷ 69 ∷ 54 ∷ 56 ∷ feed ∷ [])) ∷
    -- ":10006000000000000000000001000000000000008F"
    ((58 ∷ 49 ∷ 48 ∷ 48 ∷ 48 ∷ 54 ∷ []) ++ replicate 20 '0' ++ (49 ∷ []) ++ replicate 14 '0' ++ (56 ∷ 70 ∷ feed ∷ [])) ∷
    -- ":100070000000000000000000000000000000000080"
    ((58 ∷ 49 ∷ 48 ∷ 48 ∷ 48 ∷ 55 ∷ []) ++ replicate 35 '0' ++ (56 ∷ 48 ∷ feed ∷ [])) ∷
    -- ":100080000000000000000000000000000000000070"
    ((58 ∷ 49 ∷ 48 ∷ 48 ∷ 48 ∷ 56 ∷ []) ++ replicate 35 '0' ++ (55 ∷ 48 ∷ feed ∷ [])) ∷
    -- ":100090000000000000000000EFCDAB8967452301A0"
    ((58 ∷ 49 ∷ 48 ∷ 48 ∷ 48 ∷ 57 ∷ []) ++ replicate 19 '0'
    ++ (69 ∷ 70 ∷ 67 ∷ 68 ∷ 65 ∷ 66 ∷ 56 ∷ 57 ∷ 54 ∷ 55 ∷ 52 ∷ 53 ∷ 50 ∷ 51 ∷ 48 ∷ 49 ∷ 65 ∷ 48 ∷ feed ∷ [])) ∷
    -- ":1000A000000000000000000001000000000000004F"
    ((58 ∷ 49 ∷ 48 ∷ 48 ∷ 48 ∷ 65 ∷ []) ++ replicate 20 '0' ++ (49 ∷ []) ++ replicate 14 '0' ++ (52 ∷ 70 ∷ feed ∷ [])) ∷
    -- ":1000B0000000000000000000000000000000000040"
    ((58 ∷ 49 ∷ 48 ∷ 48 ∷ 48 ∷ 66 ∷ []) ++ replicate 35 '0' ++ (52 ∷ 48 ∷ feed ∷ [])) ∷
    -- ":00000001FF"
    ((58 ∷ []) ++ replicate 7 '0' ++ (49 ∷ 70 ∷ 70 ∷ feed ∷ [])) ∷ []

-- The whole of it: 12 records of 44 characters and the end record.
abbrev pub worked_text : List ℕ
worked_text = flatten worked_records

-- ---- texts

-- The end record.
abbrev pub end_text : List ℕ
end_text = drop 528 worked_text

-- The first `n` data records and the end record.
abbrev pub cut_to : ℕ → List ℕ
cut_to n = take (44 * n) worked_text ++ end_text

-- Character `i` of record `n` another.
abbrev pub altered : ℕ → ℕ → ℕ → List ℕ → List ℕ
altered n i c text = set text (44 * n + i) c

-- Sixteen words, all 0, in a record of one byte, in lower case and upper case, and one of 127.
abbrev pub other_records : List ℕ
other_records =
    -- ":0100000000ff", ":7F000100", 254 times "0", "80"
    (':' ∷ 48 ∷ 49 ∷ []) ++ replicate 8 '0' ++ (102 ∷ 102 ∷ feed ∷ ':' ∷ 55 ∷ 70 ∷ 48 ∷ 48 ∷ 48 ∷ 49 ∷ [])
    ++ replicate 256 '0' ++ (56 ∷ 48 ∷ feed ∷ []) ++ end_text

-- A data record of no bytes: ":0000000000".
abbrev pub empty_record : List ℕ
empty_record = ':' ∷ (replicate 10 '0' ++ (feed ∷ []))

-- An end record with a byte: ":0100000100FE".
abbrev pub end_with_data : List ℕ
end_with_data = (':' ∷ 48 ∷ 49 ∷ []) ++ replicate 5 '0' ++ (49 ∷ 48 ∷ 48 ∷ 70 ∷ 69 ∷ feed ∷ [])

-- An end record at address 1: ":00000101FE".
abbrev pub end_elsewhere : List ℕ
end_elsewhere = (':' ∷ []) ++ replicate 5 '0' ++ (49 ∷ 48 ∷ 49 ∷ 70 ∷ 69 ∷ feed ∷ [])

-- ---- a table of readings

-- A text read into a row of so many words, each 7: the number that it returns.
pub record ReadCase : Type 0 where
  pub number : ℕ
  pub words : ℕ
  pub text : List ℕ

-- A row of the table.
abbrev pub reads : ℕ → ℕ → List ℕ → ReadCase
reads number words text = record { number = number; words = words; text = text }

-- Reading returns the number; refused, it leaves the row.
unfoldable pub read_gives : ReadCase → Bool
read_gives k =
    let row : List ℕ = replicate k.words 7 in
    eqb (hex_read_cause k.text row) k.number && cond (eqb k.number 0) true (same (hex_read_left k.text row) row)

-- Every row of a table holds.
unfoldable pub all_reads : List ReadCase → Bool
all_reads [] = true
all_reads (k ∷ ks) = read_gives k && all_reads ks

-- 19: no text; no end record; no line feed at its end; a line feed more; the end record twice, with data, elsewhere; a wrong checksum; an address or a type
-- that is not the right one, with the right checksum; a record twice, left out, swapped with the next; a data record of no bytes; a carriage return; a blank;
-- characters beside the digits; and 19 while 20 stands.
unfoldable pub no_files : List ReadCase
no_files =
    reads 19 24 []
    ∷ reads 19 24 (take 528 worked_text)
    ∷ reads 19 24 (take 539 worked_text)
    ∷ reads 19 24 (worked_text ++ (feed ∷ []))
    ∷ reads 19 24 (worked_text ++ end_text)
    ∷ reads 19 24 (take 528 worked_text ++ end_with_data)
    ∷ reads 19 24 (take 528 worked_text ++ end_elsewhere)
    ∷ reads 19 24 (altered 0 42 67 worked_text)
    ∷ reads 19 24 (altered 1 6 49 (altered 1 42 67 worked_text))
    ∷ reads 19 24 (altered 1 3 49 (altered 1 41 67 worked_text))
    ∷ reads 19 24 (altered 1 8 50 (altered 1 42 66 worked_text))
    ∷ reads 19 24 (altered 1 8 49 (altered 1 42 67 worked_text))
    ∷ reads 19 24 (take 44 worked_text ++ worked_text)
    ∷ reads 19 24 (take 44 worked_text ++ drop 88 worked_text)
    ∷ reads 19 24 (take 44 worked_text ++ take 44 (drop 88 worked_text) ++ take 44 (drop 44 worked_text) ++ drop 132 worked_text)
    ∷ reads 19 24 (empty_record ++ worked_text)
    ∷ reads 19 24 (take 43 worked_text ++ (13 ∷ drop 43 worked_text))
    ∷ reads 19 24 (blank ∷ worked_text)
    ∷ reads 19 24 (altered 2 20 47 worked_text)
    ∷ reads 19 24 (altered 2 20 58 worked_text)
    ∷ reads 19 24 (altered 2 20 64 worked_text)
    ∷ reads 19 24 (altered 2 20 71 worked_text)
    ∷ reads 19 24 (altered 2 20 96 worked_text)
    ∷ reads 19 24 (altered 2 20 103 worked_text)
    ∷ reads 19 5 (altered 0 42 67 worked_text)
    ∷ []

-- 20: the end record alone; 8 and 12 words; rows of another length, of another that recovery takes too. And texts that are just taken: 16 words, 24, letters
-- of either case, records of other lengths.
unfoldable pub lengths : List ReadCase
lengths =
    reads 20 24 end_text
    ∷ reads 20 0 end_text
    ∷ reads 20 8 (cut_to 4)
    ∷ reads 20 12 (cut_to 6)
    ∷ reads 20 23 worked_text
    ∷ reads 20 25 worked_text
    ∷ reads 20 16 worked_text
    ∷ reads 20 32 worked_text
    ∷ reads 20 24 (cut_to 8)
    ∷ reads 0 16 (cut_to 8)
    ∷ reads 0 24 worked_text
    ∷ reads 0 24 (altered 0 41 101 (altered 0 42 100 worked_text))
    ∷ reads 0 16 other_records
    ∷ []

-- ---- a table of writings

-- A memory of so many words, all 0, written into a text row of so many bytes: the number that it returns.
pub record WriteCase : Type 0 where
  pub number : ℕ
  pub words : ℕ
  pub room : ℕ

-- A row of the table.
abbrev pub writes : ℕ → ℕ → ℕ → WriteCase
writes number words room = record { number = number; words = words; room = room }

-- Writing returns the number; refused, it leaves the text row.
unfoldable pub write_gives : WriteCase → Bool
write_gives k =
    let text : List ℕ = replicate k.room 170 in
    eqb (hex_write_cause (replicate k.words 0) text) k.number && cond (eqb k.number 0) true (same (hex_write_left (replicate k.words 0) text) text)

-- Every row of a table holds.
unfoldable pub all_writes : List WriteCase → Bool
all_writes [] = true
all_writes (k ∷ ks) = write_gives k && all_writes ks

-- 20 of lengths that recovery does not take, also while 12 stands; 12 one byte short; and memories that are just written.
unfoldable pub write_table : List WriteCase
write_table =
    writes 20 0 100 ∷ writes 20 8 1000 ∷ writes 20 12 1000 ∷ writes 20 17 1000 ∷ writes 20 20 0 ∷ writes 20 4104 0
    ∷ writes 12 16 363 ∷ writes 12 24 539 ∷ writes 12 4096 0 ∷ writes 0 16 364 ∷ writes 0 24 540 ∷ writes 0 24 600 ∷ []

-- The worked text is the second program's, bytes past it stay, it reads back to the words, and the tables hold.
pub record HexTextsHold : Type 0 where
  pub worked : same (hex_text worked_memory) worked_text ≡ true
  pub past : same (hex_write_left worked_memory (replicate 543 170)) (worked_text ++ (170 ∷ 170 ∷ 170 ∷ [])) ≡ true
  pub back : same (hex_read_left worked_text (replicate 24 7)) worked_memory ≡ true
  pub other : same (hex_read_left other_records (replicate 16 7)) (replicate 16 0) ≡ true
  pub files : all_reads no_files ≡ true
  pub sizes : all_reads lengths ≡ true
  pub writings : all_writes write_table ≡ true
