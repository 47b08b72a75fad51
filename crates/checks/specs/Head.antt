-- Cause 3 without the workers' updates.
use Rattle.std.specs.Prelude.{Bool, ◌||◌}
use Rattle.bitset.specs.Words.{strays}
use Rattle.locks.specs.Holders.{held_from}
use Rattle.board.specs.declared.State.{State}
use Rattle.board.specs.Board.{shape_of, outside}
use Rattle.board.specs.Causes.{place_past}

-- "L or W outside the limits; place ..", "A bit set for line 0 or past L", "each lock's holder, a worker under W or none".
abbrev pub bad_head : State → Bool
bad_head s =
    outside (shape_of s) s.workers || strays s.dirty s.lines || held_from s.holders s.workers || place_past s.phase s
