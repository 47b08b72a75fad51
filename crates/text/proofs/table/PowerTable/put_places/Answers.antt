-- `PowerTable::put_places` meets its contract: the run above the last four digits, and those four.
use Rattle.std.proofs.Common.{rules}
use Rattle.text.proofs.Places.{places-written}
use Rattle.text.proofs.table.PowerTable.put_places.Goals as goal

pub returns-then-from-gt4 : goal.returns-then-from-gt4
returns-then-from-gt4 c =
    let run = c.put_run in
    places-written c.args.n (search rules) c.requires.3 c.requires.4 run.ensures.0 run.ensures.1 c.put_last.ensures
