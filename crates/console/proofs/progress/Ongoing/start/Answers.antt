-- `Ongoing::start` meets its contract: nothing is in use, so the rows are empty whatever the arrays hold.
use Rattle.std.proofs.Common.{ℕ, [], take, ap, ◌∙◌}
use Rattle.board.specs.declared.State.{State}
use Rattle.board.specs.declared.Phase.TheVariants.{Off}
use Rattle.board.specs.Board.{shaped}
use Rattle.board.specs.State.{started}
use Rattle.board.specs.Next.{lent}
use Rattle.session.specs.Session.{desk}
use Rattle.console.specs.Transcript.{none_misread}
use Rattle.console.specs.Pieces.{carried}
use Rattle.console.proofs.progress.Ongoing.start.Goals as goal

pub returns : goal.returns
returns c =
    let s = c.new.result in
    let w = c.new.ensures in
    λ m k t line.
    ap (λ (x : State). carried (desk (lent x (take s.memory m) (take s.cache k)) (take s.text t)) 0 none_misread []) w.0
    ∙ ap (λ (n : ℕ). carried (desk (lent (started Off (shaped 0) 0) (take n m) (take s.cache k)) (take s.text t)) 0 none_misread []) w.1
    ∙ ap (λ (n : ℕ). carried (desk (lent (started Off (shaped 0) 0) [] (take n k)) (take s.text t)) 0 none_misread []) w.2
    ∙ ap (λ (n : ℕ). carried (desk (lent (started Off (shaped 0) 0) [] []) (take n t)) 0 none_misread []) w.3
