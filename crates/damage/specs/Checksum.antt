-- The fault program's checksum of numbers, and the numbers of everything.
use Rattle.std.specs.Prelude.{ℕ, ◌+◌, ◌-◌, ◌*◌, ◌%◌, ◌^◌, Bool, true, false, cond, List, [], ◌∷◌, ◌++◌, length, ◌==◌, bit_xor, slice_index}
use Rattle.locks.specs.Holders.{digit_of}
use Rattle.board.specs.declared.State.{State}
use Rattle.board.specs.declared.Phase.{Phase}
use Rattle.board.specs.declared.Phase.TheVariants.{Off, Formatting, Recovering, Running}
use Rattle.board.specs.declared.Store.{Store}
use Rattle.board.specs.declared.Store.TheVariants.{Backup, Mark, Record}
use Rattle.board.specs.declared.UndoStep.{UndoStep}
use Rattle.board.specs.declared.UndoStep.TheVariants.{Restore, Unmark, WriteLine}
use Rattle.board.specs.declared.Condition.{Condition}
use Rattle.board.specs.declared.Condition.TheVariants.{Free, Waiting, Updating, Away}
use Rattle.board.specs.Board.{Board}
use Rattle.board.specs.State.{condition_of}

-- "h := ((h xor x) × 1099511628211) mod 2^64".
unfoldable pub mixed : ℕ → ℕ → ℕ
mixed h x = (bit_xor h x * 1099511628211) % 2 ^ 64

-- "for each number x in turn".
unfoldable pub summed : ℕ → List ℕ → ℕ
summed h [] = h
summed h (x ∷ xs) = summed (mixed h x) xs

-- "h is 14695981039346656037".
abbrev pub checksum_of : List ℕ → ℕ
checksum_of numbers = summed 14695981039346656037 numbers

-- A phase as in `B`: "0 off, 1 formatting, 2 recovering, 3 running".
abbrev pub phase_number : Phase → ℕ
phase_number Off = 0
phase_number Formatting = 1
phase_number Recovering = 2
phase_number Running = 3

-- A recovery's step as in `B`: "0 to 2".
abbrev pub undo_number : UndoStep → ℕ
undo_number Restore = 0
undo_number Unmark = 1
undo_number WriteLine = 2

-- A next store as in `K`: "0 backup, 1 mark, 2 record".
abbrev pub store_number : Store → ℕ
store_number Backup = 0
store_number Mark = 1
store_number Record = 2

-- A request as in `B`: "0 or 1".
abbrev pub request_number : Bool → ℕ
request_number true = 1
request_number false = 0

-- "the fields of `B` that there are, rising".
abbrev pub field_numbers : State → List ℕ
field_numbers s =
    phase_number s.phase ∷ s.lines ∷ s.workers ∷ s.place ∷ undo_number s.undo ∷ request_number s.requested ∷ []

-- "c, n, a, v as in `K`".
abbrev pub condition_numbers : Condition → List ℕ
condition_numbers Free = 0 ∷ 0 ∷ 0 ∷ 0 ∷ []
condition_numbers Waiting = 1 ∷ 0 ∷ 0 ∷ 0 ∷ []
condition_numbers (Updating next a v) = 2 ∷ store_number next ∷ a ∷ v ∷ []
condition_numbers Away = 3 ∷ 0 ∷ 0 ∷ 0 ∷ []

-- "c, n, a, v" of worker `w`.
abbrev pub worker_numbers : State → ℕ → List ℕ
worker_numbers s w = condition_numbers (condition_of s w)

-- "for each of the eight workers".
unfoldable pub workers_numbers : State → List ℕ
workers_numbers s =
    worker_numbers s 0 ++ worker_numbers s 1 ++ worker_numbers s 2 ++ worker_numbers s 3 ++ worker_numbers s 4 ++ worker_numbers s 5 ++ worker_numbers s 6 ++ worker_numbers s 7

-- "the eight words of bits".
abbrev pub dirty_numbers : State → List ℕ
dirty_numbers s =
    slice_index s.dirty 0 ∷ slice_index s.dirty 1 ∷ slice_index s.dirty 2 ∷ slice_index s.dirty 3 ∷ slice_index s.dirty 4 ∷ slice_index s.dirty 5 ∷ slice_index s.dirty 6 ∷ slice_index s.dirty 7 ∷ []

-- Lock `k`'s holder as in `O`: "a worker 0 to 7, or 8 for none".
abbrev pub holder_number : ℕ → ℕ → ℕ
holder_number holders k = cond (digit_of holders k == 0) 8 (digit_of holders k - 1)

-- Those of four locks from lock `k` on.
abbrev pub four_holders : ℕ → ℕ → List ℕ
four_holders holders k =
    holder_number holders k ∷ holder_number holders (k + 1) ∷ holder_number holders (k + 2) ∷ holder_number holders (k + 3) ∷ []

-- "the sixteen holders as in `O`".
unfoldable pub holders_numbers : State → List ℕ
holders_numbers s =
    four_holders s.holders 0 ++ four_holders s.holders 4 ++ four_holders s.holders 8 ++ four_holders s.holders 12

-- "its length, then its words".
abbrev pub row_numbers : List ℕ → List ℕ
row_numbers row = length row ∷ row

-- "in this order: the fields, the workers, the words of bits, the holders, then memory and the cache".
abbrev pub everything : Board → List ℕ
everything b =
    field_numbers b.state ++ workers_numbers b.state ++ dirty_numbers b.state ++ holders_numbers b.state ++ row_numbers b.memory ++ row_numbers b.cache

-- "the checksum of everything".
unfoldable pub checksum : Board → ℕ
checksum b = checksum_of (everything b)
