-- `console::display::steps` meets its contract. The invariant: the steps left lead to the same board as all of them.
use Rattle.std.proofs.Common.{◌≡◌, ◌-◌}
use Rattle.board.specs.Next.{lent}
use Rattle.board.specs.Statements.{steps_from}
use Rattle.console.proofs.display.steps.Given as goal

abbrev pub invariant-loop : goal.invariant-loop
invariant-loop l =
    steps_from (l.times - l.counter) (lent l.now l.memory l.cache) ≡ steps_from l.times (lent l.fn.state l.fn.memory l.fn.cache)
