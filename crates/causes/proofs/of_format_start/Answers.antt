-- Past the limits L fits.
use mathlib.Core.Path.{sym, ◌∙◌}
use Rattle.std.proofs.Common.{arith}
use Rattle.board.specs.Board.{shaped}
use Rattle.board.specs.Causes.{cause, causes, first_standing}
use Rattle.board.proofs.Laws.Taken.{limits-in}
use Rattle.causes.proofs.of_format_start.Goals as goal

pub overflow_cast-lines : goal.overflow_cast-lines
overflow_cast-lines c =
    let given = c.args in
    omega (arith, (limits-in (shaped given.lines) given.workers (sym c.outside.ensures ∙ c.in_ok-refuse.ensures)).lines)

pub returns : goal.returns
unfolding cause causes first_standing
returns c = grind (arith, c.bad_rows.ensures c.args.state)
