-- `PowerTable::put_last` meets its contract: a run, and the digit that it leaves.
use Rattle.std.proofs.Common.{rules}
use Rattle.text.proofs.Places.{last_written}
use Rattle.text.proofs.table.PowerTable.put_last.Goals as goal

pub returns : goal.returns
returns c =
    let p = c.requires in
    let run = c.put_run-digit in
    last_written c.args.n p.0 p.3 p.4 (search rules) run.ensures.0 run.ensures.1
