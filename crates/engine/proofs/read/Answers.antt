-- `engine::read` meets its contract: a taken read has a cell that is in the cache.
use mathlib.Core.Path.{◌∙◌, sym}
use Rattle.engine.proofs.Passed.{cell-in-cache}
use Rattle.engine.proofs.Effect.{reads}
use Rattle.engine.proofs.Outcome.{refused, done, reads_nothing, reads-record}
use Rattle.engine.proofs.read.Goals as goal

pub returns-in_err-of_read : goal.returns-in_err-of_read
returns-in_err-of_read c = record { performed = refused _ _ _ _ (reads_nothing _ _ _ _ c.from_residual.ensures.1 c.in_err-of_read.ensures) _ _ c.from_residual.ensures.1 c.in_err-of_read.ensures }

pub cell_field-requires : goal.cell_field-requires
cell_field-requires c = cell-in-cache _ _ (sym c.in_ok-of_read.ensures)

pub returns : goal.returns
returns c = record { performed = done _ _ _ _ (reads-record _ _ c.in_ok-of_read.ensures c.cell_field.ensures) c.in_ok-of_read.ensures (reads _ _ _ _) }
