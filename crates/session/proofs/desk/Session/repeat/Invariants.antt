-- `Session::repeat` meets its contract. The invariant: the calls left to make lead to the same outcome as all of them.
use Rattle.std.proofs.Common.{◌≡◌, ◌-◌, take}
use Rattle.board.specs.Next.{lent}
use Rattle.causes.specs.Refusals.{answer_number}
use Rattle.engine.specs.Answers.{value_left}
use Rattle.session.specs.Lines.{given, repeated}
use Rattle.session.proofs.desk.Session.repeat.Given as goal

abbrev pub invariant-loop : goal.invariant-loop
invariant-loop l =
    repeated (l.times - l.counter) l.call (given (answer_number l.last) (value_left l.last) (lent l.state l.memory l.cache)) ≡ repeated l.times l.call (given 0 0 (lent l.fn.self.state (take l.fn.self.memory l.fn.memory) (take l.fn.self.cache l.fn.cache)))
