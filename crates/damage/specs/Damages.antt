-- The fault program's own letters: what each leaves of the board, and what is shown.
use Rattle.std.specs.Prelude.{◌≡◌, ℕ, ◌-◌, ◌≤◌, Bool, true, cond, ◌&&◌, List, [], ◌∷◌, length, take, ◌≢◌, nat_le, nat_lt, slice_index, slice_set}
use Rattle.board.specs.declared.State.{State}
use Rattle.board.specs.Board.{Board}
use Rattle.board.specs.Next.{lent}
use Rattle.script.specs.declared.Damage.{Damage}
use Rattle.script.specs.declared.Damage.TheVariants.{Lengths, Memory, Cache, Dirty, Field, Worker, Holder, Checksum}
use Rattle.script.specs.declared.Shown.{Shown}
use Rattle.script.specs.declared.Shown.TheVariants.{Unknown, Nothing, Number}
use Rattle.damage.specs.declared.Sizes.{Sizes}
use Rattle.damage.specs.declared.Damaged.{Damaged}
use Rattle.damage.specs.Record.{field_fits, with_field, field_put, word_there, with_word, word_put, condition_fits, condition_of, worker_fits, worker_put, holder_fits, with_holder, holder_put}
use Rattle.damage.specs.Rows.{resized, word_fits, stored_if}
use Rattle.damage.specs.Checksum.{field_numbers, dirty_numbers, condition_numbers, holder_number, checksum}

-- What a line leaves and shows: the board, the answer and the value.
pub record DamageOutcome : Type 0 where
  pub board : Board
  pub answer : Shown
  pub value : Shown

-- What is left and shown, put together.
abbrev pub showing : Board → Shown → Shown → DamageOutcome
showing board answer value = record { board = board; answer = answer; value = value }

-- "A number that cannot be put where it is to go" prints `?`; otherwise the answer is 0.
abbrev pub answer_if : Bool → Shown
answer_if fits = cond fits (Number 0) Unknown

-- "Rows have room for 4,104 words."
abbrev pub room_for : ℕ → ℕ → Bool
room_for m c = nat_le m 4104 && nat_le c 4104

-- "the rows' lengths: memory, cache".
abbrev pub relengthened : Board → ℕ → ℕ → Board
relengthened b m c = lent b.state (resized b.memory m) (resized b.cache c)

-- What a damaging line does; what cannot be put changes nothing.
unfoldable pub outcome : Damage → Board → DamageOutcome
-- "W m c".
outcome (Lengths m c) b = showing (cond (room_for m c) (relengthened b m c) b) (answer_if (room_for m c)) Nothing
-- "M i v": memory word i := v.
outcome (Memory i v) b =
    showing (lent b.state (stored_if (word_fits b.memory i) b.memory i v) b.cache) (answer_if (word_fits b.memory i)) Nothing
-- "N i v": cache word i := v.
outcome (Cache i v) b =
    showing (lent b.state b.memory (stored_if (word_fits b.cache i) b.cache i v)) (answer_if (word_fits b.cache i)) Nothing
-- "Q i v": word i of the record's line bits := v.
outcome (Dirty i v) b = showing (lent (word_put b.state i v) b.memory b.cache) (answer_if (word_there i)) Nothing
-- "B k v": field k of the record := v.
outcome (Field k v) b =
    showing (lent (field_put b.state k v) b.memory b.cache) (answer_if (field_fits k v)) Nothing
-- "K w c n a v": worker w gets condition c.
outcome (Worker w c n a v) b =
    showing (lent (worker_put b.state w c n a v) b.memory b.cache) (answer_if (worker_fits w c n a v)) Nothing
-- "O k h": lock k's holder := h.
outcome (Holder k h) b =
    showing (lent (holder_put b.state k h) b.memory b.cache) (answer_if (holder_fits k h)) Nothing
-- "T": nothing; the checksum of everything.
outcome Checksum b = showing b (Number 0) (Number (checksum b))

-- ---- what is claimed

-- The place of field `k` among the fields that there are: "there is no field 3".
abbrev pub field_at : ℕ → ℕ
field_at k = cond (nat_lt k 3) k (k - 1)

-- "A number written to a field is what is read back", by the checksum too.
abbrev pub FieldsReadBack : Type 0
FieldsReadBack = (s : State) (k v : ℕ) → field_fits k v ≡ true → slice_index (field_numbers (with_field s k v)) (field_at k) ≡ v

-- A word written to the line bits of a record of eight words is what is read back, and the other seven are as they were.
abbrev pub WordsReadBack : Type 0
WordsReadBack = (s : State) (i v : ℕ) → length s.dirty ≡ 8 → dirty_numbers (with_word s i v) ≡ slice_set (dirty_numbers s) i v

-- The numbers that put a worker are those that are read of it: "c, n, a, v as in `K`".
abbrev pub WorkersReadBack : Type 0
WorkersReadBack = (c n a v : ℕ) → condition_fits c n a v ≡ true → condition_numbers (condition_of c n a v) ≡ c ∷ n ∷ a ∷ v ∷ []

-- A lock's holder that was put is what is read of it, "as in `O`", and those of the other locks are as they were.
abbrev pub HoldersReadBack : Type 0
HoldersReadBack =
    (holders k h : ℕ) → holder_fits k h ≡ true →
    (holder_number (with_holder holders k h) k ≡ h) × ((j : ℕ) → (j ≢ k) → holder_number (with_holder holders k h) j ≡ holder_number holders j)

-- ---- what contracts say

-- The board in use: the state record, and the first words of the arrays.
abbrev pub in_use : State → Sizes → List ℕ → List ℕ → Board
in_use state sizes memory cache = lent state (take sizes.memory memory) (take sizes.cache cache)

-- What the code leaves and shows.
abbrev pub left : Damaged → List ℕ → List ℕ → DamageOutcome
left r memory cache = showing (in_use r.state r.sizes memory cache) r.answer r.value

-- The arrays have the room.
pub record HasRoom (memory cache : List ℕ) : Type 0 where
  pub memory-room : 4104 ≤ length memory
  pub cache-room : 4104 ≤ length cache
