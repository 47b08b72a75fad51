-- The table of refusals: one computed test over all its rows.
use mathlib.Core.Path.{◌≡◌, refl}
use mathlib.Core.List.{flatten}
use mathlib.Core.Bool.{true, ◌&&◌}
use Rattle.predicate.specs.Passing.{any_under, count_under, nth_from, nth_under, numbers_under}
use Rattle.bitset.specs.Words.{bits_in, bit_of, with_bit, contains, inserted as added, size, nth, strays}
use Rattle.locks.specs.Holders.{digit_of, unheld, holds as held, holds_any, held_from, with_digit}
use Rattle.line.specs.Line.{line_of, with_line}
use Rattle.line.specs.Cell.{field_index, field_of, with_field}
use Rattle.board.specs.Causes.{bad_record, causes, first_standing, cause}
use Rattle.board.specs.Effects.{format_step, recovery_step, perform_act, perform_first, advance, advance_of, step, effect}
use Rattle.board.specs.Checkpoint.{acts, stores_epoch}
use Rattle.board.specs.Next.{next, value_read, value_counted, profile}
use Rattle.board.specs.Bench.{same, all_taken_in, after_events, sees, all_seen, holds}
use Rattle.board.specs.Refusals.{refusals, RefusalsHold, any_asks, asked, all_asked, EachAsked}
use Rattle.board.specs.declared.Call.{Call}
use Rattle.board.specs.Board.{Board}
use Rattle.board.proofs.Laws.Taken.{ByEffect, quiet, the_format, the_recovery, the_step, the_update, the_restart, the_advance, the_request, the_write_back, the_going, the_coming, the_taking, the_giving, by-effect}
use Rattle.board.proofs.Bench.{all_hold, each}

tested : all_hold refusals ≡ true
unfolding flatten all_hold refusals holds all_taken_in after_events sees all_seen next value_read cause causes first_standing bad_record any_under effect step format_step recovery_step acts numbers_under perform_act perform_first stores_epoch advance advance_of line_of with_line field_index field_of with_field same count_under nth_from nth_under bits_in bit_of with_bit contains added size nth strays value_counted digit_of unheld held holds_any held_from with_digit
tested = refl

-- Every call is turned down and taken as the table of refusals says.
pub refusals-hold : RefusalsHold
refusals-hold = each refusals tested

-- ---- what the table asks

-- No call is left out of it.
rows-asked : {k : Call} → ByEffect k → (b : Board) → asked (profile k).index 0 refusals && all_asked (profile k).index (causes k b) ≡ true
unfolding flatten refusals any_asks asked all_asked causes
rows-asked (quiet q) b = q.rows b
rows-asked (the_format l w) b = refl
rows-asked the_recovery b = refl
rows-asked the_step b = refl
rows-asked (the_update w c v) b = refl
rows-asked (the_restart w v) b = refl
rows-asked (the_advance w) b = refl
rows-asked the_request b = refl
rows-asked (the_write_back l) b = refl
rows-asked (the_going w) b = refl
rows-asked (the_coming w) b = refl
rows-asked (the_taking w k) b = refl
rows-asked (the_giving w k) b = refl

pub each-asked : EachAsked
each-asked k = rows-asked (by-effect k)
