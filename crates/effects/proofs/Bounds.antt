-- What the bounds of specs/Bounds.antt give at the step at hand.
use Prim.Native.Nat.{ℕ, ◌+◌, ◌≤◌, ◌<◌, ◌^◌}
use mathlib.Core.Path.{◌≡◌, sym, ◌∙◌}
use mathlib.Core.List.{List}
use native.Mathlib.Omega.{arith}
use lib.ListN.{length}
use Rattle.bitset.specs.Words.{nth}
use Rattle.bitset.proofs.Words.{size_room}
use Rattle.bitset.proofs.Members.{nth-own}
use Rattle.line.specs.Line.{line_start}
use Rattle.board.specs.declared.State.{State}
use Rattle.board.specs.Board.{epoch_of, last_epoch}
use Rattle.board.specs.State.{dirty_count}
use Rattle.effects.specs.Bounds.{Checkpoints}

module _ (s : State) (m c : List ℕ) (k : Checkpoints s m c) {n : ℕ} (count : n ≡ dirty_count s) where
  -- A dirty line is in both rows.
  pub dirty-in : {place l : ℕ} → place ≡ s.place → place < n → l ≡ nth s.dirty place → (line_start l + 8 ≤ length m) × (line_start l + 8 ≤ length c)
  dirty-in {place} p h e = omega (arith, (nth-own s.dirty s.lines k.lines place (omega arith)).2)

  -- There is a next epoch at the epoch's store.
  pub epoch-in : {e : ℕ} → s.place ≡ n → e ≡ epoch_of c → e < 2 ^ 64 → e + 1 < 2 ^ 64
  epoch-in {e} h p f = below e f (λ q. k.epoch (h ∙ count) (sym p ∙ q))
    where
      below : (e : ℕ) → e < 2 ^ 64 → (e ≡ last_epoch → ⊥) → e + 1 < 2 ^ 64
      below e f o = omega arith

-- A checkpoint's places are few enough for there to be a next one.
pub place-fits : (s : State) (m c : List ℕ) → Checkpoints s m c → s.place < 65535
place-fits s m c k = omega (arith, k.place, size_room s.dirty)
