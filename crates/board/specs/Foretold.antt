-- What is claimed of document 02, ticket 5, "Each line written once", each claim as a type. `proofs/Foretold/Theorems.antt` proves every one.
use Rattle.std.specs.Prelude.{ℕ, suc, ◌+◌, ◌/◌, ◌^◌, ◌≤◌, ◌<◌, ◌≡◌, ◌↔◌, List, [], ◌∷◌, ◌++◌, map, Bool, true, false, ◌||◌, length, get_or}
use Rattle.predicate.specs.Passing.{count_under, numbers_under, passing}
use Rattle.bitset.specs.Words.{capacity, contains, size, strays}
use Rattle.board.specs.declared.State.{State}
use Rattle.board.specs.declared.Call.{Call}
use Rattle.board.specs.declared.Call.TheVariants.{Step, Advance, Count}
use Rattle.board.specs.declared.Condition.TheVariants.{Updating}
use Rattle.board.specs.declared.Store.{Store}
use Rattle.board.specs.Board.{Board}
use Rattle.board.specs.State.{condition_of, is_running}
use Rattle.board.specs.Effects.{written_back}
use Rattle.board.specs.Next.{Taken, next, Performed, profile, kind, is_start, is_step}
use Rattle.board.specs.Quiet.{Quiet}
use Rattle.board.specs.Machine.{marked_line}
use Rattle.board.specs.Sequence.{Run, History}
use Rattle.board.specs.Statements.{AllWaitOrAway}

-- ---- 1. which lines are dirty

-- The bit of cell `c`'s line is set, and every other is as it was.
pub record LineSet (c : ℕ) (b b' : Board) : Type 0 where
  pub set : contains b'.state.dirty (1 + c / 2) ≡ true
  pub others : (l : ℕ) → (l ≡ 1 + c / 2 → ⊥) → contains b'.state.dirty l ≡ contains b.state.dirty l
  pub size : length b'.state.dirty ≡ length b.state.dirty

-- "Marking a cell now promises its line's bit too": the mark's store, on a record of eight words.
abbrev pub MarkSets : Type 0
MarkSets =
    (w c v : ℕ) (b : Board) → length b.state.dirty ≡ 8 → condition_of b.state w ≡ Updating Store.Mark c v → Taken (Advance w) b → LineSet c b (next (Advance w) b)

-- From a start on and up to the next cut, a running board's dirty lines are the lines with a cell that the machine has marked, and no other bit is set.
abbrev pub DirtyLines : Type 0
DirtyLines =
    (r : Run) → History r → r.crashed ≡ false → is_running r.board.state.phase ≡ true →
    ((i : ℕ) → suc i ≤ r.machine.shape.lines → contains r.board.state.dirty (suc i) ≡ marked_line r.machine i)
    × ((l : ℕ) → contains r.board.state.dirty l ≡ true → (1 ≤ l) × (l ≤ r.machine.shape.lines))

-- "A bit set for line 0 or past L": of eight words of 64 bits no bit strays exactly where each that is set is one of lines 1 to L.
abbrev pub StrayBits : Type 0
StrayBits =
    (words : List ℕ) (l : ℕ) → length words ≡ 8 → ((k : ℕ) → k < 8 → get_or words k 0 < 2 ^ 64) →
    (strays words l ≡ false) ↔ ((i : ℕ) → contains words i ≡ true → (1 ≤ i) × (i ≤ l))

-- ---- 2. the count

-- "the count of set bits": of any eight words, it is how many lines have their bit set.
abbrev pub CountsBits : Type 0
CountsBits = (words : List ℕ) → size words ≡ count_under capacity (contains words)

-- "the count of set bits plus 3, never over L+3": what a taken count gives back, on any board.
abbrev pub CountWithin : Type 0
CountWithin = (b b' : Board) (value : ℕ) → Performed Count b 0 value b' → (3 ≤ value) × (value ≤ b.state.lines + 3)

-- The count, taken or refused, leaves state and rows.
abbrev pub CountLeaves : Type 0
CountLeaves = (b : Board) → next Count b ≡ b

-- ---- 3. the count foretells the steps

-- A call that brings a worker back.
abbrev pub comes_back : Call → Bool
comes_back k = (profile k).comes_back

-- `ToRelease n b b'`: calls and quiet things lead from board `b` to board `b'`. `n` steps among them returned 0, the last call being the last of them and a release: it alone leaves no request. No start and no coming back returned 0.
pub data ToRelease : ℕ → Board → Board → Type 0 where
  releases : {value : ℕ} {b b' : Board} → Performed Step b 0 value b' → b'.state.requested ≡ false → ToRelease 1 b b'
  steps : {n value : ℕ} {b d b' : Board} → Performed Step b 0 value d → d.state.requested ≡ true → ToRelease n d b' → ToRelease (suc n) b b'
  between : {n number value : ℕ} (k : Call) {b d b' : Board} → Performed k b number value d → (number ≡ 0 → is_start (kind k) || is_step (kind k) || comes_back k ≡ false) → ToRelease n d b' → ToRelease n b b'
  stays : {n : ℕ} {b d b' : Board} → Quiet b d → ToRelease n d b' → ToRelease n b b'

-- No step of a checkpoint was taken: no request stands, or the place is 0.
abbrev pub BeforeFirstStep : State → Type 0
BeforeFirstStep s = s.requested ≡ true → s.place ≡ 0

-- After any history, with no cut since the last start, the board runs, every worker under W waits or is away, and no step of the checkpoint was taken.
pub record Gathered (r : Run) : Type 0 where
  pub reached : History r
  pub uncut : r.crashed ≡ false
  pub running : is_running r.board.state.phase ≡ true
  pub waiting : AllWaitOrAway r.board.state
  pub before : BeforeFirstStep r.board.state

-- "Learned once every worker waits and before the first step, it equals the steps then taken up to and with the release, if nobody comes back first and no cut or start falls between." And there it can be learned.
abbrev pub Foretold : Type 0
Foretold =
    (r : Run) → Gathered r → (number value : ℕ) (b : Board) → Performed Count r.board number value b →
    (number ≡ 0) × ((n : ℕ) (b' : Board) → ToRelease n b b' → n ≡ value)

-- ---- 4. each line once

-- What a step writes: a line, or none.
pub data Written : Type 0 where
  line : ℕ → Written
  nothing : Written

-- Memory has that line as the cache has it, and is else as it was.
abbrev pub Wrote : Written → Board → Board → Type 0
Wrote (line l) b b' = b'.memory ≡ written_back l b
Wrote nothing b b' = b'.memory ≡ b.memory

-- The taken steps up to a release write these lines, one after the other.
unfoldable pub StepsWrite : {n : ℕ} {b b' : Board} → ToRelease n b b' → List Written → Type 0
StepsWrite (releases p off) [] = ⊥
StepsWrite (releases {b = b} {b' = b'} p off) (w ∷ []) = Wrote w b b'
StepsWrite (releases p off) (w ∷ v ∷ ws) = ⊥
StepsWrite (steps p on rest) [] = ⊥
StepsWrite (steps {b = b} {d = d} p on rest) (w ∷ ws) = Wrote w b d × StepsWrite rest ws
StepsWrite (between k p a rest) ws = StepsWrite rest ws
StepsWrite (stays q rest) ws = StepsWrite rest ws

-- The dirty lines, rising.
abbrev pub rising_lines : State → List ℕ
rising_lines s = passing (contains s.dirty) (numbers_under capacity)

-- "each line once": the steps write every dirty line, rising, and no other cell line; then come the epoch's store, line 0 and the release.
abbrev pub EachLineOnce : Type 0
EachLineOnce =
    (r : Run) → Gathered r → (n : ℕ) (b' : Board) (s : ToRelease n r.board b') →
    StepsWrite s (map line (rising_lines r.board.state) ++ (nothing ∷ line 0 ∷ nothing ∷ []))
