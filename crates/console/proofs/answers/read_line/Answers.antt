-- `console::answers::read_line` meets its contract: a line in one piece is read where it stands, another from the bytes kept.
use Rattle.std.proofs.Common.{ℕ, ◌++◌, take, sym, subst}
use Rattle.console.specs.Pieces.{LineRead}
use Rattle.console.proofs.LineEnds.{reads_kept}
use Rattle.console.proofs.answers.read_line.Goals as goal

pub returns-then-begun-eq0 : goal.returns-then-begun-eq0
returns-then-begun-eq0 c =
    let a = c.args in
    subst (λ (k : ℕ). LineRead a.program a.wanted (take 80 (take k a.line.now ++ a.rest.now)) c.asked_by.result) (sym c.if-begun-eq0.true) (reads_kept c.asked_by.ensures)
