-- What is claimed of document 02, ticket 6, "Who holds the lock", each claim as a type. `proofs/Locks/Theorems.antt` proves every one.
use Rattle.std.specs.Prelude.{ℕ, ◌*◌, ◌%◌, ◌≤◌, ◌<◌, ◌≡◌, ◌⊎◌, ◌↔◌, List, Bool, true, false, not, ◌||◌}
use Rattle.locks.specs.Holders.{unheld, holds}
use Rattle.board.specs.declared.State.{State}
use Rattle.board.specs.declared.Call.{Call}
use Rattle.board.specs.declared.Call.TheVariants.{Update, RestartPoint, TakeLock, GiveBackLock}
use Rattle.board.specs.declared.Condition.TheVariants.{Free, Waiting, Updating, Away}
use Rattle.board.specs.declared.Store.{Store}
use Rattle.board.specs.declared.Phase.{Phase}
use Rattle.board.specs.Board.{Board}
use Rattle.board.specs.State.{condition_of, is_off, is_recovering, is_running}
use Rattle.board.specs.Causes.{cause}
use Rattle.board.specs.Next.{Taken, next, Performed, Kind, starts_format, starts_recovery, stepping, writing, counting, other, reading, kind, is_start}
use Rattle.board.specs.Page.{page_cause}
use Rattle.board.specs.Quiet.{Quiet}
use Rattle.board.specs.Sequence.{Run, History}
use Rattle.board.specs.Statements.{HoldsNone}

-- ---- 1. no conflict

-- `FromStart b`: a start of format or recovery returned 0, on any board whatever its record and rows were; from there calls, taken or refused, and quiet things
-- led to board `b`, with no cut between.
pub data FromStart : Board → Type 0 where
  starts : (k : Call) {value : ℕ} (b : Board) {b' : Board} → is_start (kind k) ≡ true → Performed k b 0 value b' → FromStart b'
  performs : (k : Call) {number value : ℕ} {b b' : Board} → FromStart b → Performed k b number value b' → FromStart b'
  stays : {b b' : Board} → FromStart b → Quiet b b' → FromStart b'

-- "Cause 9 remains only for a state record that no calls from a taken start lead to": there no call is answered by 9.
abbrev pub NoConflict : Type 0
NoConflict = (b : Board) → FromStart b → (k : Call) (number value : ℕ) (b' : Board) → Performed k b number value b' → number ≡ 9 → ⊥

-- ---- 2. who holds a lock

-- A worker with an unfinished update of a data cell, one not under W, holds that cell's lock, its number mod 16. A restart point is of the worker's own
-- cell, and there, waiting or away, a worker holds no lock. A lock's holder is under W.
pub record Held (s : State) : Type 0 where
  pub own : (w c v : ℕ) (store : Store) → condition_of s w ≡ Updating store c v → s.workers ≤ c → holds s.holders w (c % 16) ≡ true
  pub restart : (w c v : ℕ) (store : Store) → condition_of s w ≡ Updating store c v → c < s.workers → (c ≡ w) × HoldsNone s w
  pub waiting : (w : ℕ) → (condition_of s w ≡ Waiting) ⊎ (condition_of s w ≡ Away) → HoldsNone s w
  pub under : (w k : ℕ) → k < 16 → holds s.holders w k ≡ true → w < s.workers

-- "A data cell's update needs its lock held at its start", and keeps it.
abbrev pub LocksHeld : Type 0
LocksHeld = (b : Board) → FromStart b → Held b.state

-- Each lock has at most one holder, whatever the record.
abbrev pub OneHolder : Type 0
OneHolder = (holders w v k : ℕ) → holds holders w k ≡ true → holds holders v k ≡ true → w ≡ v

-- Nobody holds a lock exactly where no worker does.
abbrev pub HeldOrFree : Type 0
HeldOrFree = (holders k : ℕ) → (unheld holders k ≡ true) ↔ ((w : ℕ) → holds holders w k ≡ false)

-- A lock is held by a worker that is not there, W or one past it: a record that no calls lead to.
pub record StrayHolder (s : State) : Type 0 where
  pub lock : ℕ
  pub worker : ℕ
  pub one : lock < 16
  pub past : s.workers ≤ worker
  pub held : holds s.holders worker lock ≡ true

-- A phase lets a call pass, by its kind: "Write-back needs recovering or running. The step call needs a phase other than off. All else needs running."
-- "Starts of format and recovery are taken in each phase".
abbrev pub allows : Phase → Kind → Bool
allows p starts_format = true
allows p starts_recovery = true
allows p stepping = not (is_off p)
allows p writing = is_recovering p || is_running p
allows p counting = is_running p
allows p other = is_running p
allows p (reading c) = is_running p

-- "a worker under W or none, else cause 3": in every phase such a holder turns down every call that the phase lets pass, but the two starts; and every page
-- of a running board.
abbrev pub StrayHolders : Type 0
StrayHolders =
    (b : Board) → StrayHolder b.state →
    ((k : Call) → is_start (kind k) ≡ false → allows b.state.phase (kind k) ≡ true → cause k b ≡ 3)
    × ((text : List ℕ) → is_running b.state.phase ≡ true → page_cause b text ≡ 3)

-- ---- 3. when a call is taken

-- Worker `w` is there and free.
pub record FreeWorker (s : State) (w : ℕ) : Type 0 where
  pub there : w < s.workers
  pub free : condition_of s w ≡ Free

-- No unfinished update of worker `w` is of a data cell under lock `k`.
abbrev pub NoneUnder : State → ℕ → ℕ → Type 0
NoneUnder s w k = (c v : ℕ) (store : Store) → condition_of s w ≡ Updating store c v → s.workers ≤ c → c % 16 ≡ k → ⊥

-- A running board gives worker `w` lock `k` exactly where the worker is free and the lock is one of 16 that nobody holds. It takes it back exactly where
-- this worker holds it and no unfinished update of its is under it.
-- It takes an update exactly where the worker is free and holds the data cell's lock, and a restart point exactly where it is free and holds none: what the
-- other workers do turns neither down.
pub record LocksDecide (s : State) (b : Board) : Type 0 where
  pub takes : (w k : ℕ) → Taken (TakeLock w k) b ↔ (FreeWorker s w × (k < 16) × (unheld s.holders k ≡ true))
  pub gives_back : (w k : ℕ) → Taken (GiveBackLock w k) b ↔ ((w < s.workers) × (k < 16) × NoneUnder s w k × (holds s.holders w k ≡ true))
  pub updates : (w c v : ℕ) → Taken (Update w c v) b ↔ (FreeWorker s w × (s.workers ≤ c) × (c < 2 * s.lines) × (holds s.holders w (c % 16) ≡ true))
  pub restarts : (w v : ℕ) → Taken (RestartPoint w v) b ↔ (FreeWorker s w × HoldsNone s w)

-- After any history, with no cut since the last start.
abbrev pub LockAnswers : Type 0
LockAnswers = (r : Run) → History r → r.crashed ≡ false → is_running r.board.state.phase ≡ true → LocksDecide r.board.state r.board

-- ---- 4. what the two calls change

-- Every field of the record but the holders, and both rows, are as they were.
pub record OnlyHolders (b b' : Board) : Type 0 where
  pub phase : b'.state.phase ≡ b.state.phase
  pub lines : b'.state.lines ≡ b.state.lines
  pub workers : b'.state.workers ≡ b.state.workers
  pub place : b'.state.place ≡ b.state.place
  pub undo : b'.state.undo ≡ b.state.undo
  pub request : b'.state.requested ≡ b.state.requested
  pub dirty : b'.state.dirty ≡ b.state.dirty
  pub worker : b'.state.worker ≡ b.state.worker
  pub memory : b'.memory ≡ b.memory
  pub cache : b'.cache ≡ b.cache

-- Every lock but lock `k` has the holder that it had.
abbrev pub OthersHeld : ℕ → Board → Board → Type 0
OthersHeld k b b' = (w j : ℕ) → j < 16 → (j ≡ k → ⊥) → holds b'.state.holders w j ≡ holds b.state.holders w j

-- "A free worker, else 8, takes a free lock": it was free, this worker holds it, and nothing else has changed.
abbrev pub TakesLock : Type 0
TakesLock =
    (w k : ℕ) (b : Board) → Taken (TakeLock w k) b →
    (unheld b.state.holders k ≡ true) × (holds (next (TakeLock w k) b).state.holders w k ≡ true) × OthersHeld k b (next (TakeLock w k) b) × OnlyHolders b (next (TakeLock w k) b)

-- "It gives it back": this worker held it, nobody holds it, and nothing else has changed.
abbrev pub GivesLockBack : Type 0
GivesLockBack =
    (w k : ℕ) (b : Board) → Taken (GiveBackLock w k) b →
    (holds b.state.holders w k ≡ true) × (unheld (next (GiveBackLock w k) b).state.holders k ≡ true) × OthersHeld k b (next (GiveBackLock w k) b) × OnlyHolders b (next (GiveBackLock w k) b)

-- No other call but the two starts, which free all locks (`Begun`), changes a lock's holder: a release and the end of a format or recovery leave them too.
abbrev pub HoldersStay : Type 0
HoldersStay =
    (k : Call) (b : Board) → is_start (kind k) ≡ false → ((w j : ℕ) → k ≡ TakeLock w j → ⊥) → ((w j : ℕ) → k ≡ GiveBackLock w j → ⊥) → (next k b).state.holders ≡ b.state.holders
