-- A checkpoint's step, by the cases in which the code goes: each law puts together the parts that the code makes.
use Prim.Native.Nat.{ℕ, ◌+◌, ◌≤◌, ◌<◌}
use mathlib.Core.Path.{◌≡◌, refl, sym, ap, ◌∙◌}
use mathlib.Core.List.{List, [], ◌∷◌}
use mathlib.Core.Bool.{true}
use native.Mathlib.Omega.{arith}
use lib.ListN.{length, get_or, set}
use Rattle.bitset.specs.Words.{nth}
use Rattle.line.specs.Line.{line_of, with_line}
use Rattle.board.specs.declared.State.{State}
use Rattle.board.specs.Board.{Board, epoch_of}
use Rattle.board.specs.State.{placed, released, dirty_count}
use Rattle.board.specs.Checkpoint.{acts}
use Rattle.board.proofs.Checkpoint.Acts.{first-line, first-epoch, first-header, first-release}
use Rattle.board.specs.Effects.{perform_act, perform_first}
use Rattle.board.specs.Next.{lent}

-- A board with equal parts.
pub same-board : {s s' : State} {m m' c c' : List ℕ} → s ≡ s' → m ≡ m' → c ≡ c' → lent s m c ≡ lent s' m' c'
same-board p q r = λ i. lent (p i) (q i) (r i)

-- A list of eight, item by item.
pub all-eight : {A : Type 0} (d : A) (xs : List A) → length xs ≡ 8 →
    xs ≡ get_or xs 0 d ∷ get_or xs 1 d ∷ get_or xs 2 d ∷ get_or xs 3 d ∷ get_or xs 4 d ∷ get_or xs 5 d ∷ get_or xs 6 d ∷ get_or xs 7 d ∷ []
all-eight d (a ∷ b ∷ c ∷ e ∷ f ∷ g ∷ h ∷ k ∷ []) p = refl
all-eight d xs p = absurd (omega arith)

-- ---- checkpoint

-- A step of a requested checkpoint leads from a board to another.
abbrev Steps : Board → Board → Type 0
Steps b b' = b' ≡ perform_first (acts b) b.state b

module _ (s : State) {s' : State} (m c : List ℕ) (on : s.requested ≡ true) {n : ℕ} (count : n ≡ dirty_count s) where
  -- "writes the set lines in rising order".
  pub writes-dirty : {m' : List ℕ} {l : ℕ} → l ≡ nth s.dirty s.place → s.place < n → s' ≡ placed s (s.place + 1) s.undo →
      m' ≡ with_line m l (line_of c l) → Steps (lent s m c) (lent s' m' c)
  unfolding perform_act
  writes-dirty e h p q = same-board p (q ∙ ap (λ (l : ℕ). with_line m l (line_of c l)) e) refl ∙ sym (first-line (lent s m c) on (omega arith))

  -- "epoch := epoch + 1 in the cache".
  pub stores-epoch : {c' : List ℕ} {epoch : ℕ} → s.place ≡ n → s' ≡ placed s (s.place + 1) s.undo → epoch ≡ epoch_of c →
      c' ≡ set c 0 (epoch + 1) → Steps (lent s m c) (lent s' m c')
  unfolding perform_act
  stores-epoch h p f q = same-board p refl (q ∙ ap (λ (x : ℕ). set c 0 (x + 1)) f) ∙ sym (first-epoch (lent s m c) on (h ∙ count))

  -- "line 0 written back".
  pub writes-header : {m' : List ℕ} → s.place ≡ n + 1 → s' ≡ placed s (s.place + 1) s.undo → m' ≡ with_line m 0 (line_of c 0) →
      Steps (lent s m c) (lent s' m' c)
  unfolding perform_act
  writes-header h p q = same-board p q refl ∙ sym (first-header (lent s m c) on (omega arith))

  -- "release".
  pub releases : s.place ≤ dirty_count s + 2 → n ≤ s.place → (s.place ≡ n → ⊥) → (s.place ≡ n + 1 → ⊥) → s' ≡ released s → Steps (lent s m c) (lent s' m c)
  unfolding perform_act
  releases top h o k p = same-board p refl refl ∙ sym (first-release (lent s m c) on (omega (arith, o, k)))
