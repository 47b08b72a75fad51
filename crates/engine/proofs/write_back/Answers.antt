-- `engine::write_back` meets its contract: a taken write-back has a line that is in both rows.
use mathlib.Core.Path.{refl, ◌∙◌, sym}
use Rattle.board.specs.Next.{value_of}
use Rattle.engine.proofs.Passed.{line-in-rows}
use Rattle.engine.proofs.Effect.{writes-back}
use Rattle.engine.proofs.Outcome.{refused, done}
use Rattle.engine.proofs.write_back.Goals as goal

pub returns-in_err-of_write_back : goal.returns-in_err-of_write_back
unfolding value_of
returns-in_err-of_write_back c = record { performed = refused _ _ _ _ refl _ _ c.from_residual.ensures.1 c.in_err-of_write_back.ensures }

pub write_back-requires : goal.write_back-requires
write_back-requires c = line-in-rows _ _ (sym c.in_ok-of_write_back.ensures)

pub returns : goal.returns
unfolding value_of
returns c = record { performed = done _ _ _ _ refl c.in_ok-of_write_back.ensures (writes-back _ _ _ _ c.write_back.ensures) }
