-- Each part is the part of the definition.
use Rattle.std.proofs.Common.{rules}
use lib.Dec.{leb}
use Rattle.board.specs.State.{updates}
use Rattle.board.specs.Causes.{bad_record}
use Rattle.checks.proofs.record.bad_record.Goals as goal

pub returns : goal.returns
unfolding bad_record
returns c =
    rw (
      c.bad_head.ensures,
      c.any_worker.ensures (λ i k. updates (leb c.cells-cells.result) k) (λ i k r p. search rules),
      c.cells-cells.ensures,
    )
