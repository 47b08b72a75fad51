-- What the acts of a checkpoint write: each dirty line once, rising, and then line 0.
use Prim.Native.Nat.{ℕ}
use mathlib.Core.Path.{◌≡◌, refl, ap, ◌∙◌}
use mathlib.Core.List.{List, [], ◌∷◌, ◌++◌, map}
use Rattle.predicate.specs.Passing.{nth_under, numbers_under}
use Rattle.predicate.proofs.Rising.{rising-listed}
use Rattle.bitset.specs.Words.{capacity, contains, nth}
use Rattle.bitset.proofs.Words.{size-count}
use Rattle.board.specs.Board.{Board}
use Rattle.board.specs.State.{dirty_count}
use Rattle.board.specs.Checkpoint.{Act, write_line, store_epoch, write_header, release, planned}
use Rattle.board.specs.Foretold.{Written, line, nothing, rising_lines}

-- What an act writes.
abbrev pub writes : Act → Written
writes (write_line l) = line l
writes store_epoch = nothing
writes write_header = line 0
writes release = nothing

-- The acts of a checkpoint write the dirty lines, rising, nothing, line 0 and nothing.
pub planned-writes : (b : Board) → map writes (planned b) ≡ map line (rising_lines b.state) ++ (nothing ∷ line 0 ∷ nothing ∷ [])
unfolding nth
planned-writes b =
    let g = nth_under capacity (contains b.state.dirty) in
    behind g (numbers_under (dirty_count b.state))
    ∙ ap (λ (xs : List ℕ). map line xs ++ (nothing ∷ line 0 ∷ nothing ∷ []))
    (ap (λ (n : ℕ). map g (numbers_under n)) (size-count b.state.dirty) ∙ rising-listed capacity (contains b.state.dirty))
  where
    behind : (g : ℕ → ℕ) (ns : List ℕ) →
        map writes (map (λ p. write_line (g p)) ns ++ (store_epoch ∷ write_header ∷ release ∷ [])) ≡ map line (map g ns) ++ (nothing ∷ line 0 ∷ nothing ∷ [])
    behind g [] = refl
    behind g (n ∷ ns) = ap {B = List Written} (λ ws. line (g n) ∷ ws) (behind g ns)
