-- Past the rows and the header memory is whole, and its marks tell.
use mathlib.Core.Path.{sym, ◌∙◌}
use Rattle.std.proofs.Common.{arith}
use Rattle.board.specs.Causes.{cause, causes, first_standing}
use Rattle.board.specs.Next.{lent}
use Rattle.causes.proofs.Memory.{whole}
use Rattle.causes.proofs.of_recovery_start.Goals as goal

pub returns-in_err-refuse : goal.returns-in_err-refuse
unfolding cause causes first_standing
returns-in_err-refuse c = grind (arith, c.bad_recovery_rows.ensures c.args.state)

pub returns-in_err-refuse-2 : goal.returns-in_err-refuse-2
unfolding cause causes first_standing
returns-in_err-refuse-2 c = grind (arith, c.bad_recovery_rows.ensures c.args.state)

pub later_mark-requires : goal.later_mark-requires
later_mark-requires c =
    let given = c.args in
    (whole (lent given.state given.memory.now given.cache.now) (sym (c.bad_recovery_rows.ensures given.state) ∙ c.in_ok-refuse.ensures)
    (sym c.bad_header.ensures ∙ c.in_ok-refuse-2.ensures)).memory

pub returns : goal.returns
unfolding cause causes first_standing
returns c = grind (arith, c.bad_recovery_rows.ensures c.args.state)
