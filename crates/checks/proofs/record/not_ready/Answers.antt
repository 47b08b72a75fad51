-- The board runs, and the rest is the definition's.
use Rattle.std.proofs.Common.{rules, ◌≡◌, sym, not}
use denote.Enum.Bare.{same_true}
use Rattle.board.specs.contracts.Phase.{the_type}
use Rattle.board.specs.declared.Phase.TheVariants.{Running}
use Rattle.board.specs.State.{quiescent}
use Rattle.checks.proofs.record.not_ready.Goals as goal

pub returns-then-eq : goal.returns-then-eq
returns-then-eq c =
    let on : c.args.state.phase ≡ Running = same_true the_type (search rules) _ _ (sym c.if-eq.ensures) in
    rw (c.any_worker.ensures (λ i k. not (quiescent k)) (λ i k r p. search rules), on)
