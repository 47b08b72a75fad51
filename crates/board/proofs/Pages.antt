-- The worked page and the table of pages, computed.
use mathlib.Core.Path.{refl}
use mathlib.Core.List.{flatten}
use Rattle.predicate.specs.Passing.{any_under, count_under, nth_from, nth_under}
use Rattle.bitset.specs.Words.{bits_in, bit_of, with_bit, contains, inserted as added, size, nth, strays}
use Rattle.locks.specs.Holders.{digit_of, unheld, holds as held, holds_any, held_from, with_digit}
use Rattle.text.specs.Numbers.{spelled}
use Rattle.line.specs.Cell.{field_index, field_of}
use Rattle.board.specs.Causes.{bad_record, first_standing}
use Rattle.board.specs.Page.{line_text, before, inserted, ordered, page_text, page_causes, page_cause, page_left}
use Rattle.predicate.specs.Passing.{numbers_under}
use Rattle.board.specs.Bench.{same}
use Rattle.board.specs.Pages.{page_table, page_gives, all_pages, none_written, PagesHold}

pub pages-hold : PagesHold
unfolding flatten same spelled line_text before inserted ordered numbers_under page_text page_causes page_cause page_left first_standing bad_record any_under field_index field_of page_table page_gives all_pages none_written count_under nth_from nth_under bits_in bit_of with_bit contains added size nth strays digit_of unheld held holds_any held_from with_digit
pages-hold = record { worked = refl; past = refl; refused = refl; unwritten = refl; high = refl; apart = refl; table = refl }
