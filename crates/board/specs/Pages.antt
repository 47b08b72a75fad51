-- Document 02, tickets 1 and 10: a page worked out, and pages that are turned down and just taken.
use Rattle.std.specs.Prelude.{ℕ, ◌+◌, ◌-◌, ◌^◌, ◌≡◌, Bool, true, ◌&&◌, eqb, replicate, set}
use mathlib.Core.List.{List, [], ◌∷◌, ◌++◌, map, flatten}
use Rattle.text.specs.Ascii.{blank, feed}
use Rattle.board.specs.declared.Phase.TheVariants.{Running}
use Rattle.board.specs.Board.{Board, shaped, header_words}
use Rattle.board.specs.State.{started}
use Rattle.board.specs.Effects.{cached}
use Rattle.board.specs.Page.{cell_order, page_text, page_cause, page_left}
use Rattle.board.specs.Bench.{same}
use Rattle.board.specs.Refusals.Boards.{row_for, sound, short_cache, straying, misfits, bad_records, quiet_edges, requested_edges, not_running_of}

-- ---- a page worked out

-- L = 3, W = 1, in epoch 2: cells 0, 2 and 5 are marked with epoch 1, cells 1, 3 and 4 with epoch 2. Of the former cell 5 differs from its backup, of the
-- latter cells 3 and 4. Memory has none of it yet.
abbrev pub worked_board : Board
worked_board =
    let cache = header_words 2 (shaped 3) 1 ++ (10 ∷ 10 ∷ 1 ∷ 99 ∷ 99 ∷ 2 ∷ 0 ∷ 0 ∷ [])
    ++ (0 ∷ 0 ∷ 1 ∷ 7 ∷ (2 ^ 64 - 1) ∷ 2 ∷ 0 ∷ 0 ∷ []) ++ (100 ∷ 0 ∷ 2 ∷ 8 ∷ 0 ∷ 1 ∷ 0 ∷ 0 ∷ []) in
    record { state = started Running (shaped 3) 1; memory = row_for 3 1; cache = cache }

-- Its page, as the second program prints it.
abbrev pub worked_lines : List (List ℕ)
worked_lines =
    -- "cell               record               backup                 mark"
    ((99 ∷ 101 ∷ 108 ∷ 108 ∷ []) ++ replicate 15 blank ++ (114 ∷ 101 ∷ 99 ∷ 111 ∷ 114 ∷ 100 ∷ [])
    ++ replicate 15 blank ++ (98 ∷ 97 ∷ 99 ∷ 107 ∷ 117 ∷ 112 ∷ []) ++ replicate 17 blank ++ (109 ∷ 97 ∷ 114 ∷ 107 ∷ feed ∷ [])) ∷
    -- "   3                    7 18446744073709551615                    2"
    (replicate 3 blank ++ (51 ∷ []) ++ replicate 20 blank ++ (55 ∷ [])
    ++ replicate 1 blank ++ (49 ∷ 56 ∷ 52 ∷ 52 ∷ 54 ∷ 55 ∷ 52 ∷ 52 ∷ 48 ∷ 55 ∷ 51 ∷ 55 ∷ 48 ∷ 57 ∷ 53 ∷ 53 ∷ 49 ∷ 54 ∷ 49 ∷ 53 ∷ []) ++ replicate 20 blank ++ (50 ∷ feed ∷ [])) ∷
    -- "   4                  100                    0                    2"
    (replicate 3 blank ++ (52 ∷ []) ++ replicate 18 blank ++ (49 ∷ 48 ∷ 48 ∷ [])
    ++ replicate 20 blank ++ (48 ∷ []) ++ replicate 20 blank ++ (50 ∷ feed ∷ [])) ∷
    -- "   1                   99                   99                    2"
    (replicate 3 blank ++ (49 ∷ []) ++ replicate 19 blank ++ (57 ∷ 57 ∷ [])
    ++ replicate 19 blank ++ (57 ∷ 57 ∷ []) ++ replicate 20 blank ++ (50 ∷ feed ∷ [])) ∷
    -- "   5                    8                    0                    1"
    (replicate 3 blank ++ (53 ∷ []) ++ replicate 20 blank ++ (56 ∷ [])
    ++ replicate 20 blank ++ (48 ∷ []) ++ replicate 20 blank ++ (49 ∷ feed ∷ [])) ∷
    -- "   0                   10                   10                    1"
    (replicate 3 blank ++ (48 ∷ []) ++ replicate 19 blank ++ (49 ∷ 48 ∷ [])
    ++ replicate 19 blank ++ (49 ∷ 48 ∷ []) ++ replicate 20 blank ++ (49 ∷ feed ∷ [])) ∷
    -- "   2                    0                    0                    1"
    (replicate 3 blank ++ (50 ∷ []) ++ replicate 20 blank ++ (48 ∷ [])
    ++ replicate 20 blank ++ (48 ∷ []) ++ replicate 20 blank ++ (49 ∷ feed ∷ [])) ∷ []

-- Marks on both sides of 2^63: they compare as numbers of 64 bits, so the cells stand in the order 2, 0, 3, 1.
abbrev pub high_marks : List ℕ
high_marks = header_words 2 (shaped 2) 1 ++ (0 ∷ 0 ∷ 2 ^ 63 ∷ 0 ∷ 0 ∷ 1 ∷ 0 ∷ 0 ∷ []) ++ (0 ∷ 0 ∷ (2 ^ 63 + 1) ∷ 0 ∷ 0 ∷ (2 ^ 63 - 1) ∷ 0 ∷ 0 ∷ [])

-- Cells 0 and 1 have mark 0, cells 2 and 3 one past the epoch; cells 1 and 3 differ from their backups in one bit, the highest and the lowest, so each stands
-- before the other of its mark.
abbrev pub one_bit_apart : List ℕ
one_bit_apart =
    header_words 2 (shaped 2) 1 ++ (1 ∷ 1 ∷ 0 ∷ 2 ^ 63 ∷ 0 ∷ 0 ∷ 0 ∷ 0 ∷ [])
    ++ ((2 ^ 64 - 1) ∷ (2 ^ 64 - 1) ∷ 3 ∷ (2 ^ 64 - 2) ∷ (2 ^ 64 - 1) ∷ 3 ∷ 0 ∷ 0 ∷ [])

-- ---- a table of pages

-- A page asked of a board with a text row of so many bytes, each 170: the number that it returns.
pub record PageCase : Type 0 where
  pub board : Board
  pub room : ℕ
  pub number : ℕ

-- A row of the table.
abbrev pub pages : ℕ → ℕ → Board → PageCase
pages number room b = record { board = b; room = room; number = number }

-- A running board (1, 1) whose cache has another L in its header: the page goes by the record's.
abbrev pub misheaded : ℕ → Board
misheaded l = cached (set (row_for 1 1) 1 l) (sound Running 1 1).state (sound Running 1 1)

-- Boards on which a page is refused by 2, by 3 and by 4, the text row being long enough.
abbrev pub refused_boards : List Board
refused_boards = not_running_of (sound Running 1 1) ++ bad_records ++ misfits (sound Running 1 1)

-- Cause 2 while 3, 4 and 12 stand; 3 while 4 and 12 stand; 4 while 12 stands; 12 of rows one byte short and of none; and pages that are just taken.
unfoldable pub page_table : List PageCase
page_table =
    map (pages 2 0) (not_running_of (sound Running 1 1))
    ++ map (pages 3 0) (straying (short_cache (sound Running 1 1)) ∷ bad_records)
    ++ map (pages 4 203) (misfits (sound Running 1 1))
    ++ (pages 12 0 (sound Running 1 1) ∷ pages 12 203 (sound Running 1 1) ∷ pages 12 339 (sound Running 2 3) ∷ pages 12 1019 (sound Running 7 8) ∷ [])
    ++ map (pages 0 204) quiet_edges
    ++ map (pages 0 204) requested_edges
    ++ (pages 0 205 (sound Running 1 1) ∷ pages 0 340 (sound Running 2 3) ∷ pages 0 1020 (sound Running 7 8) ∷ [])
    ++ (pages 12 203 (misheaded 0) ∷ pages 0 204 (misheaded 2) ∷ [])

-- The page returns the number.
unfoldable pub page_gives : PageCase → Bool
page_gives k = eqb (page_cause k.board (replicate k.room 170)) k.number

-- Every row of a table holds.
unfoldable pub all_pages : List PageCase → Bool
all_pages [] = true
all_pages (k ∷ ks) = page_gives k && all_pages ks

-- A page of each of the boards leaves a text row of 400 bytes as it was.
unfoldable pub none_written : List Board → Bool
none_written [] = true
none_written (b ∷ bs) = same (page_left b (replicate 400 170)) (replicate 400 170) && none_written bs

-- The worked page is the second program's, bytes past it stay, a page refused by 12 and by 2, 3 or 4 writes nothing, marks are compared whole, records and
-- backups too, and the table holds.
pub record PagesHold : Type 0 where
  pub worked : same (page_text worked_board.cache 6) (flatten worked_lines) ≡ true
  pub past : same (page_left worked_board (replicate 479 170)) (flatten worked_lines ++ (170 ∷ 170 ∷ 170 ∷ [])) ≡ true
  pub refused : same (page_left worked_board (replicate 475 170)) (replicate 475 170) ≡ true
  pub unwritten : none_written refused_boards ≡ true
  pub high : same (cell_order high_marks 4) (2 ∷ 0 ∷ 3 ∷ 1 ∷ []) ≡ true
  pub apart : same (cell_order one_bit_apart 4) (3 ∷ 2 ∷ 1 ∷ 0 ∷ []) ≡ true
  pub table : all_pages page_table ≡ true
