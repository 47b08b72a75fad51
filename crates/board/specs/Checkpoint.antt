-- Document 01, "Steps", and document 02, ticket 5: what is left of a checkpoint, act by act.
use Rattle.std.specs.Prelude.{ℕ, List, [], ◌∷◌, ◌++◌, map, Bool, true, false, cond, drop}
use Rattle.predicate.specs.Passing.{numbers_under}
use Rattle.bitset.specs.Words.{nth}
use Rattle.board.specs.declared.State.{State}
use Rattle.board.specs.Board.{Board}
use Rattle.board.specs.State.{dirty_count}

-- What a checkpoint's step does: a dirty line written back; "epoch := epoch + 1 in the cache; line 0 written back; release".
pub data Act : Type 0 where
  write_line : ℕ → Act
  store_epoch write_header release : Act

-- 02: "A checkpoint writes the set lines in rising order": the p-th of them, for each p below n.
abbrev pub line_acts : Board → List Act
line_acts b = map (λ p. write_line (nth b.state.dirty p)) (numbers_under (dirty_count b.state))

-- Then come the last three acts.
abbrev pub last_acts : List Act
last_acts = store_epoch ∷ write_header ∷ release ∷ []

-- All acts of a checkpoint, each at its place.
abbrev pub planned : Board → List Act
planned b = line_acts b ++ last_acts

-- The steps that a requested checkpoint has taken: its place.
abbrev pub progress : State → ℕ
progress s = cond s.requested s.place 0

-- What is left of a checkpoint.
unfoldable pub acts : Board → List Act
acts b = drop (progress b.state) (planned b)

-- The next act is the epoch's store.
unfoldable pub stores_epoch : List Act → Bool
stores_epoch [] = false
stores_epoch (write_line l ∷ later) = false
stores_epoch (store_epoch ∷ later) = true
stores_epoch (write_header ∷ later) = false
stores_epoch (release ∷ later) = false
