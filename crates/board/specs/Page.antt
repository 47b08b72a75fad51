-- Document 02, tickets 1 and 10, "A page of cells for the van", "Changed cells on top": the page's text, why a page is turned down, and what the call leaves.
use Rattle.std.specs.Prelude.{ℕ, ◌+◌, ◌*◌, ◌≡◌, Bool, cond, ◌&&◌, ◌||◌, ltb, eqb, length}
use mathlib.Core.List.{List, [], ◌∷◌, ◌++◌, map, flatten}
use Rattle.predicate.specs.Passing.{numbers_under}
use Rattle.text.specs.Ascii.{blank, feed}
use Rattle.text.specs.Numbers.{number_text}
use Rattle.text.specs.Writing.{put, aligned}
use Rattle.line.specs.declared.Field.{Field}
use Rattle.line.specs.Cell.{field_of}
use Rattle.board.specs.Board.{Board, Shape, shape_of, cells}
use Rattle.board.specs.Causes.{Cause, check, guarded, not_running, first_standing}

-- ---- the page's lines

-- A text "right-aligned" in a column, and the byte behind it.
abbrev pub field_text : ℕ → List ℕ → ℕ → List ℕ
field_text width text behind = aligned width text ++ (behind ∷ [])

-- "in columns of 4, 20, 20 and 20, .., one blank between, each ended by a line feed": a line with a text in each column.
unfoldable pub line_text : List ℕ → List ℕ → List ℕ → List ℕ → List ℕ
line_text a b c d = field_text 4 a blank ++ field_text 20 b blank ++ field_text 20 c blank ++ field_text 20 d feed

-- "a heading line (cell, record, backup, mark)".
abbrev pub heading_text : List ℕ
heading_text =
    line_text (99 ∷ 101 ∷ 108 ∷ 108 ∷ []) (114 ∷ 101 ∷ 99 ∷ 111 ∷ 114 ∷ 100 ∷ []) (98 ∷ 97 ∷ 99 ∷ 107 ∷ 117 ∷ 112 ∷ []) (109 ∷ 97 ∷ 114 ∷ 107 ∷ [])

-- "one line for each cell, .. decimal": the cell's number and its three words in the cache.
abbrev pub cell_text : List ℕ → ℕ → List ℕ
cell_text cache c =
    line_text (number_text c) (number_text (field_of cache c Field.Record)) (number_text (field_of cache c Field.Backup)) (number_text (field_of cache c Field.Mark))

-- ---- their order

-- Ticket 10, "cells whose record differs from backup come first", whatever their mark: 0 for such a cell, 1 for the others.
abbrev pub changed_first : List ℕ → ℕ → ℕ
changed_first cache c = cond (eqb (field_of cache c Field.Record) (field_of cache c Field.Backup)) 1 0

-- "newest mark first", "among equal marks, cells whose record differs from backup come first, then rising cell number": cell `a` goes before cell `b`.
unfoldable pub before : List ℕ → ℕ → ℕ → Bool
before cache a b =
    ltb (field_of cache b Field.Mark) (field_of cache a Field.Mark)
    || (eqb (field_of cache b Field.Mark) (field_of cache a Field.Mark)
    && (ltb (changed_first cache a) (changed_first cache b) || (eqb (changed_first cache a) (changed_first cache b) && ltb a b)))

-- A number put into a list behind the first ones that go before it.
unfoldable pub inserted : (ℕ → ℕ → Bool) → ℕ → List ℕ → List ℕ
inserted goes_before a [] = a ∷ []
inserted goes_before a (b ∷ bs) = cond (goes_before b a) (b ∷ inserted goes_before a bs) (a ∷ b ∷ bs)

-- The numbers of a list in order.
unfoldable pub ordered : (ℕ → ℕ → Bool) → List ℕ → List ℕ
ordered goes_before [] = []
ordered goes_before (a ∷ rest) = inserted goes_before a (ordered goes_before rest)

-- The cells below `n` as their lines stand on the page.
abbrev pub cell_order : List ℕ → ℕ → List ℕ
cell_order cache n = ordered (before cache) (numbers_under n)

-- The page of `n` cells: the heading, "then one line for each cell".
unfoldable pub page_text : List ℕ → ℕ → List ℕ
page_text cache n = heading_text ++ flatten (map (cell_text cache) (cell_order cache n))

-- ---- the call

-- The bytes of a line: the four columns, a blank behind each of the first three, and the line feed.
abbrev pub line_bytes : ℕ
line_bytes = 4 + 1 + 20 + 1 + 20 + 1 + 20 + 1

-- The bytes of a page of a board with L lines.
abbrev pub page_bytes : Shape → ℕ
page_bytes σ = line_bytes * (cells σ + 1)

-- "12 where the row is too short, checked last": what can turn a page down; "All else needs running".
unfoldable pub page_causes : Board → List ℕ → List Cause
page_causes b text =
    guarded (not_running b) b
    (check 12 (ltb (length text) (page_bytes (shape_of b.state)))
    ∷ [])

-- The number that a page returns.
unfoldable pub page_cause : Board → List ℕ → ℕ
page_cause b text = first_standing (page_causes b text)

-- The text row that a page leaves: the page at its front, all as it was where the page is refused.
unfoldable pub page_left : Board → List ℕ → List ℕ
page_left b text = cond (eqb (page_cause b text) 0) (put text 0 (page_text b.cache (cells (shape_of b.state)))) text

-- The complete outcome of a page: number, state, each lent word and each byte of the text row.
pub record PageOutcome : Type 0 where
  pub number : ℕ
  pub board : Board
  pub text : List ℕ

-- The outcome that a page must have, taken or refused: no state and no row changes.
abbrev pub page_outcome : Board → List ℕ → PageOutcome
page_outcome b text = record { number = page_cause b text; board = b; text = page_left b text }

-- What the contract of a page says: made of board `before` with the text row `text`, it gave back `number` and left board `after` and the text row `left`.
abbrev pub PagePerformed : Board → List ℕ → ℕ → Board → List ℕ → Type 0
PagePerformed before text number after left = record { number = number; board = after; text = left } ≡ page_outcome before text
