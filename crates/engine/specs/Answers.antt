-- What a call's outcome leaves: "state as given; read value 0" where it is refused.
use Rattle.std.specs.Prelude.{ℕ, Result, Ok, Err}
use Rattle.board.specs.declared.State.{State}
use Rattle.causes.specs.declared.refusals.Refusal.{Refusal}
use Rattle.engine.specs.declared.Reading.{Reading}

-- The state record, where a call gives it back.
abbrev pub state_left : State → Result State Refusal → State
state_left given (Ok state) = state
state_left given (Err refusal) = given

-- The value that was read or counted.
abbrev pub value_left : Result ℕ Refusal → ℕ
value_left (Ok value) = value
value_left (Err refusal) = 0

-- The state record, where a call gives it back with a value.
abbrev pub reading_state : State → Result Reading Refusal → State
reading_state given (Ok reading) = reading.state
reading_state given (Err refusal) = given

-- The value beside it.
abbrev pub reading_value : Result Reading Refusal → ℕ
reading_value (Ok reading) = reading.value
reading_value (Err refusal) = 0
