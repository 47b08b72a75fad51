-- `damage::damages::put_lengths` meets its contract: the new lengths are within the room, or all stays.
use Rattle.std.proofs.Common.{◌∙◌, leb, le-leb}
use Rattle.predicate.proofs.Bools.{and_both}
use Rattle.damage.proofs.Arms.{by_parts, lengths-put, lengths-off, room-off}
use Rattle.damage.proofs.damages.put_lengths.Goals as goal

pub returns-then-m-gt4104 : goal.returns-then-m-gt4104
returns-then-m-gt4104 c =
    let a = c.args in
    by_parts a.memory.now a.cache.now c.answered.ensures
    ∙ lengths-off a.state a.sizes a.memory.now a.cache.now a.m a.c (room-off a.m a.c c.then-m-gt4104.either)

pub returns : goal.returns
returns c =
    let a = c.args in
    let room = and_both (leb a.m 4104) (leb a.c 4104) (le-leb a.m 4104 c.if-m-gt4104.false) (le-leb a.c 4104 c.if-c-gt4104.false) in
    by_parts c.resize.new.row c.resize-2.new.row c.answered-2.ensures
    ∙ lengths-put a.state a.sizes a.memory.now a.cache.now a.m a.c c.resize.new.row c.resize-2.new.row room c.resize.ensures c.resize-2.ensures
