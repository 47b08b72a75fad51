-- The bench cases K1 to K11: one computed test over the whole table, and one law that turns it into the statement.
use mathlib.Core.Path.{◌≡◌, refl}
use mathlib.Core.List.{List, [], ◌∷◌}
use mathlib.Core.Bool.{Bool, true, false, ◌&&◌, false≢true}
use Rattle.predicate.specs.Passing.{any_under, count_under, nth_from, nth_under, numbers_under}
use Rattle.bitset.specs.Words.{bits_in, bit_of, with_bit, contains, inserted as added, size, nth, strays}
use Rattle.locks.specs.Holders.{digit_of, unheld, holds as held, holds_any, held_from, with_digit}
use Rattle.line.specs.Line.{line_of, with_line}
use Rattle.line.specs.Cell.{field_index, field_of, with_field}
use Rattle.board.specs.Causes.{bad_record, causes, first_standing, cause}
use Rattle.board.specs.Effects.{format_step, recovery_step, perform_act, perform_first, step, advance, advance_of, effect}
use Rattle.board.specs.Checkpoint.{acts, stores_epoch}
use Rattle.board.specs.Next.{next, value_read, value_counted}
use Rattle.board.specs.Bench.{Case, same, all_taken_in, after_events, runs_in, sees, all_seen, holds, table, Each, BenchHolds}

-- Every case of a table holds, as a test.
unfoldable pub all_hold : List Case → Bool
all_hold [] = true
all_hold (k ∷ ks) = holds k && all_hold ks

both : (a b : Bool) → a && b ≡ true → (a ≡ true) × (b ≡ true)
both true b e = (refl, e)
both false b e = absurd (false≢true e)

-- A table that passes the test holds.
pub each : (ks : List Case) → all_hold ks ≡ true → Each ks
unfolding all_hold Each
each [] e = tt
each (k ∷ ks) e = ((both (holds k) (all_hold ks) e).0, each ks (both (holds k) (all_hold ks) e).1)

tested : all_hold table ≡ true
unfolding all_hold table holds same all_taken_in after_events runs_in sees all_seen next value_read cause causes first_standing bad_record any_under effect step format_step recovery_step acts numbers_under perform_act perform_first stores_epoch advance advance_of line_of with_line field_index field_of with_field count_under nth_from nth_under bits_in bit_of with_bit contains added size nth strays value_counted digit_of unheld held holds_any held_from with_digit
tested = refl

-- K1 to K11 hold of the definitions.
pub bench : BenchHolds
bench = each table tested
