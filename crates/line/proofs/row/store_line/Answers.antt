-- `line::row::store_line` meets its contract: the part that was lent comes back with the given words.
use Rattle.line.proofs.Part.{back-line}
use Rattle.line.proofs.row.store_line.Goals as goal

pub returns : goal.returns
returns c =
    let a = c.args in
    back-line a.row.now a.line c.copy_from_slice.ensures.after
