use Rattle.std.proofs.Common.{◌≡◌, refl, ap, ◌∙◌, ◌-◌, arith}
use Rattle.predicate.specs.Passing.{any_under}
use Rattle.board.specs.Board.{lines_of}
use Rattle.checks.proofs.Walk.{later_within, line-walked}
use Rattle.checks.proofs.marks.later_mark.Goals as goal

pub loop-line-init : goal.loop-line-init
unfolding any_under
loop-line-init c = refl

pub loop-line-preserved : goal.loop-line-preserved
loop-line-preserved c =
    let at = c.loop-line in
    let start = c.args in
    rw (c.later_in_line-found.ensures, at.invariant) (line-walked start.epoch start.row.now at.line (omega arith))

pub returns : goal.returns
returns c =
    let at = c.loop-line in
    let start = c.args in
    let all : at.line - 1 ≡ lines_of start.row.now = omega arith in
    at.invariant ∙ ap (later_within start.epoch start.row.now) all
