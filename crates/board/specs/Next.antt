-- Document 01, "Why a call is turned down", and document 02, tickets 5 and 6: every call as one function, taken or refused.
use Rattle.std.specs.Prelude.{ℕ, ◌+◌, ◌≡◌, Bool, true, false, cond, eqb, List}
use Rattle.board.specs.declared.State.{State}
use Rattle.board.specs.declared.Call.{Call}
use Rattle.board.specs.declared.Call.TheVariants.{FormatStart, RecoveryStart, Step, Update, RestartPoint, Advance, Request, WriteBack, Read, GoAway, ComeBack, Count, TakeLock, GiveBackLock}
use Rattle.line.specs.declared.Field.{Field}
use Rattle.line.specs.Cell.{field_of}
use Rattle.board.specs.Board.{Board}
use Rattle.board.specs.State.{dirty_count}
use Rattle.board.specs.Causes.{cause}
use Rattle.board.specs.Effects.{effect}

-- "A taken call returns 0."
abbrev pub Taken : Call → Board → Type 0
Taken k b = cause k b ≡ 0

-- No cause stands.
abbrev pub taken : Call → Board → Bool
taken k b = eqb (cause k b) 0

-- What a call leaves: its step where it is taken, all as it was where it is refused.
unfoldable pub next : Call → Board → Board
next k b = cond (taken k b) (effect k b) b

-- "Read gives a cell's record in the cache"; "state as given; read value 0" where it is refused.
unfoldable pub value_read : ℕ → Board → ℕ
value_read c b = cond (taken (Read c) b) (field_of b.cache c Field.Record) 0

-- 02, ticket 5: "the count of set bits plus 3": the steps that a checkpoint of these lines takes.
abbrev pub steps_of : Board → ℕ
steps_of b = dirty_count b.state + 3

-- "turned down, it gets 0".
unfoldable pub value_counted : Board → ℕ
value_counted b = cond (taken Count b) (steps_of b) 0

-- What a call is to a sequence: a start of format or recovery, the step, a write-back, a read of a cell, the count, or one of the others.
pub data Kind : Type 0 where
  starts_format starts_recovery stepping writing counting other : Kind
  reading : ℕ → Kind

-- What sequences and statements ask of a call, whatever its other arguments: its place in the list of calls, its kind, whether it names a worker, whether it
-- brings one back.
pub record Profile : Type 0 where
  pub index : ℕ
  pub kind : Kind
  pub names : ℕ → Bool
  pub comes_back : Bool

-- A call that names no worker.
abbrev pub of_nobody : ℕ → Kind → Profile
of_nobody index kind = record { index = index; kind = kind; names = λ i. false; comes_back = false }

-- A call of worker `w`.
abbrev pub of_worker : ℕ → ℕ → Bool → Profile
of_worker index w back = record { index = index; kind = other; names = λ i. eqb i w; comes_back = back }

-- The one table of calls.
abbrev pub profile : Call → Profile
profile (FormatStart l w) = of_nobody 0 starts_format
profile RecoveryStart = of_nobody 1 starts_recovery
profile Step = of_nobody 2 stepping
profile (Update w c v) = of_worker 3 w false
profile (RestartPoint w v) = of_worker 4 w false
profile (Advance w) = of_worker 5 w false
profile Request = of_nobody 6 other
profile (WriteBack l) = of_nobody 7 writing
profile (Read c) = of_nobody 8 (reading c)
profile (GoAway w) = of_worker 9 w false
profile (ComeBack w) = of_worker 10 w true
profile Count = of_nobody 11 counting
profile (TakeLock w k) = of_worker 12 w false
profile (GiveBackLock w k) = of_worker 13 w false

-- The kind of a call.
abbrev pub kind : Call → Kind
kind k = (profile k).kind

-- A start of format or recovery.
abbrev pub is_start : Kind → Bool
is_start starts_format = true
is_start starts_recovery = true
is_start stepping = false
is_start writing = false
is_start counting = false
is_start other = false
is_start (reading c) = false

-- The step call.
abbrev pub is_step : Kind → Bool
is_step starts_format = false
is_step starts_recovery = false
is_step stepping = true
is_step writing = false
is_step counting = false
is_step other = false
is_step (reading c) = false

-- ---- what a contract says

-- The board that a call is lent: the state record by value and the contents of the two rows.
abbrev pub lent : State → List ℕ → List ℕ → Board
lent state memory cache = record { state = state; memory = memory; cache = cache }

-- What a call of each kind gives back: a read the value read, the count the steps counted, every other call 0.
abbrev pub given_by : Kind → Board → ℕ
given_by starts_format b = 0
given_by starts_recovery b = 0
given_by stepping b = 0
given_by writing b = 0
given_by counting b = value_counted b
given_by other b = 0
given_by (reading c) b = value_read c b

-- The value that a call gives back.
unfoldable pub value_of : Call → Board → ℕ
value_of k b = given_by (kind k) b

-- "its complete outcome: number, state and each lent word", with the value read or counted.
pub record Outcome : Type 0 where
  pub number : ℕ
  pub value : ℕ
  pub board : Board

-- The outcome that a call must have, taken or refused.
abbrev pub outcome : Call → Board → Outcome
outcome k b = record { number = cause k b; value = value_of k b; board = next k b }

-- What every contract says: the call, made of board `before`, gave back `number` and `value` and left board `after`, and that is its outcome.
abbrev pub Performed : Call → Board → ℕ → ℕ → Board → Type 0
Performed k before number value after = record { number = number; value = value; board = after } ≡ outcome k before
