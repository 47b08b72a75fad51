-- `Ongoing::answer_last` meets its contract: the line feed that the last line lacks ends it.
use Rattle.std.proofs.Common.{arith, rules}
use Rattle.console.proofs.Pieces.{none_last, line-last}
use Rattle.console.proofs.progress.Ongoing.answer_last.Goals as goal

pub returns-then-self-eq0 : goal.returns-then-self-eq0
returns-then-self-eq0 c =
    let a = c.args in
    record { finishes = none_last a.program a.self a.buffers.now c.if-self-eq0.true; within = omega arith; same = search rules }

pub returns : goal.returns
returns c =
    let a = c.args in
    let r = c.answer-r.ensures in record { finishes = line-last a.program a.self a.buffers.now a.buffers.now.line_long c.if-self-eq0.false r.fed r.stops; within = r.stops.written-within; same = r.same }
