-- What a format's steps do to one row: a line of zeros stored at the place, and the header stored at the end.
use Prim.Native.Nat.{ℕ, ◌+◌, ◌/◌, ◌≤◌, ◌<◌}
use mathlib.Core.Path.{◌≡◌, refl, sym, ap, subst, ◌∙◌}
use mathlib.Core.List.{List}
use mathlib.Core.Bool.{false, cond}
use native.Mathlib.Omega.{arith}
use native.Mathlib.Decide.{ℕ_discrete}
use lib.Dec.{eqb}
use borrow.Author.Tests.{eqb-false, eq-eqb, ne_eqb}
use lib.ListN.{get_or, get_or-replicate}
use Rattle.line.specs.Line.{line_start, with_line}
use Rattle.line.proofs.Laws.{get_d-with_line-in, get_d-with_line-out, header-with_line}
use Rattle.board.specs.Board.{Shape, shaped, outside, epoch_of, header_words, zero_words}
use Rattle.board.specs.Statements.{Spare}
use Rattle.predicate.proofs.Bools.{on, chosen, passed_over}
use Rattle.board.specs.Location.{Location, Has, line_for}
use Rattle.board.proofs.Laws.View.{zeros, zeros-fit, line-positive, line-high, View, view, Sized, line-in, sized-line, view-line-out, view-erased}
use Rattle.board.proofs.Laws.Rows.{rest-zero}
use Rattle.board.proofs.Invariant.{Undo, Undoes, Header, Kept, Zeroed}

-- ---- a line of zeros stored

-- At a format's start no line need be zeros.
pub zeroed-none : (σ : Shape) (row : List ℕ) → Zeroed σ 0 row
zeroed-none σ row = record { locations = λ u h b. absurd (omega arith); spare = λ i k a b. absurd (omega arith) }

module _ {σ : Shape} (row : List ℕ) (p : ℕ) (z : Sized σ row) (h : p ≤ σ.lines) where
  -- The words of the line at the place are zeros.
  word-erased : (k : ℕ) → k < 8 → get_or (with_line row p zero_words) (line_start p + k) 0 ≡ 0
  word-erased k b = get_d-with_line-in row p zero_words k (line-in row p z h) refl b ∙ get_or-replicate 8 k 0 0 b

  -- The row keeps its length.
  pub sized-erased : Sized σ (with_line row p zero_words)
  sized-erased = sized-line row p zero_words z h refl

  -- A word of another line stays, one of the erased line is zero.
  pub word-erase : (i k : ℕ) → k < 8 →
      get_or (with_line row p zero_words) (line_start i + k) 0 ≡ cond (eqb ((line_start i + k) / 8) p) 0 (get_or row (line_start i + k) 0)
  word-erase i k b =
      elim (ℕ_discrete p i) [
        | yes e ↦
            subst (λ (j : ℕ). get_or (with_line row p zero_words) (line_start j + k) 0 ≡ 0) e (word-erased k b)
            ∙ sym (chosen (eqb ((line_start i + k) / 8) p) 0 (get_or row (line_start i + k) 0) (eq-eqb ((line_start i + k) / 8) p (omega arith)))
        | no o ↦
            get_d-with_line-out row p zero_words (line_start i + k) (line-in row p z h) refl (λ e. o (omega arith))
            ∙ sym (passed_over (eqb ((line_start i + k) / 8) p) 0 (get_or row (line_start i + k) 0) (ne_eqb ((line_start i + k) / 8) p (λ e. o (omega arith))))
      ]

  -- One more line is zeros.
  pub zeroed-erase : Zeroed σ p row → Zeroed σ (p + 1) (with_line row p zero_words)
  zeroed-erase f =
      record {
        locations = λ t b u. elim (ℕ_discrete (line_for t) p) [
          | yes e ↦ subst (λ (j : ℕ). view (with_line row j zero_words) t ≡ zeros) e (view-erased row t z b)
          | no o ↦ view-line-out row p zero_words t z h refl o ∙ f.locations t b (omega arith)
        ];
        spare = λ i k a b c d. word-erase i k d ∙ on (λ (x : ℕ). x ≡ 0) (eqb ((line_start i + k) / 8) p) 0 (get_or row (line_start i + k) 0) (λ e. refl) (λ e. f.spare i k a (omega (arith, eqb-false ((line_start i + k) / 8) p e)) c d);
      }

  -- Once line 0 is erased the epoch is 0.
  pub epoch-erase : (0 < p → epoch_of row ≡ 0) → epoch_of (with_line row p zero_words) ≡ 0
  epoch-erase old =
      elim (ℕ_discrete p 0) [
        | yes e ↦ subst (λ (j : ℕ). get_or (with_line row p zero_words) j 0 ≡ 0) (omega arith) (word-erased 0 (omega arith))
        | no o ↦ header-with_line row p zero_words 0 (line-in row p z h) (omega arith) (omega arith) ∙ old (omega arith)
      ]

-- ---- the header stored

module _ {σ : Shape} (row : List ℕ) (w : ℕ) (z : Sized σ row) where
  -- The words of line 0 are the header's.
  pub word-header : (k : ℕ) → k < 8 → get_or (with_line row 0 (header_words 1 σ w)) k 0 ≡ get_or (header_words 1 σ w) k 0
  word-header k b =
      let a : line_start 0 + k ≡ k = omega arith in
      subst (λ (i : ℕ). get_or (with_line row 0 (header_words 1 σ w)) i 0 ≡ get_or (header_words 1 σ w) k 0) a
      (get_d-with_line-in row 0 (header_words 1 σ w) k (line-in row 0 z (omega arith)) refl b)

  -- The row keeps its length.
  pub sized_fresh : Sized σ (with_line row 0 (header_words 1 σ w))
  sized_fresh = sized-line row 0 (header_words 1 σ w) z (omega arith) refl

  -- The epoch is 1.
  pub epoch-fresh : epoch_of (with_line row 0 (header_words 1 σ w)) ≡ 1
  epoch-fresh = word-header 0 (omega arith)

  -- The words of the cell lines stay.
  pub word_kept : (i k : ℕ) → 1 ≤ i → k < 8 → get_or (with_line row 0 (header_words 1 σ w)) (line_start i + k) 0 ≡ get_or row (line_start i + k) 0
  word_kept i k a b = get_d-with_line-out row 0 (header_words 1 σ w) (line_start i + k) (line-in row 0 z (omega arith)) refl (λ e. omega arith)

  -- The header is one that recovery's start takes.
  pub header-fresh : outside σ w ≡ false → Header σ (with_line row 0 (header_words 1 σ w))
  header-fresh o =
      record {
        epoch = subst (λ (e : ℕ). 0 < e) (sym epoch-fresh) (omega arith);
        shape = ap shaped (word-header 1 (omega arith));
        limits = subst (λ (v : ℕ). outside σ v ≡ false) (sym (word-header 2 (omega arith))) o;
        rest = rest-zero (word-header 3 (omega arith)) (word-header 4 (omega arith)) (word-header 5 (omega arith)) (word-header 6 (omega arith)) (word-header 7 (omega arith));
      }

  module _ (f : Zeroed σ (σ.lines + 1) row) where
    -- Every cell is zeros.
    pub view-fresh : (u : Location) → Has σ u → view (with_line row 0 (header_words 1 σ w)) u ≡ zeros
    view-fresh u b =
        view-line-out row 0 (header_words 1 σ w) u z (omega arith) refl (λ e. omega (arith, line-positive σ u b)) ∙ f.locations u b (omega (arith, line-high u b))

    -- Words 6 and 7 are zero.
    pub spare-fresh : Spare σ (λ i. 0) (with_line row 0 (header_words 1 σ w))
    spare-fresh i k a b c d = word_kept i k a d ∙ f.spare i k a (omega arith) c d

    -- Undoing any cell in epoch 1 gives 0.
    pub undoes-fresh : Undoes σ 1 (λ u. 0) (with_line row 0 (header_words 1 σ w))
    undoes-fresh u b =
        subst (λ (v : View). Undo u 1 0 v) (sym (view-fresh u b)) (record { logged = λ e. refl; plain = λ o. refl; fit = (zeros-fit u 1 (omega arith)).1 })

    -- Recovery from the row gives 0 for every cell.
    pub kept_fresh : outside σ w ≡ false → Kept σ (λ u. 0) (with_line row 0 (header_words 1 σ w))
    kept_fresh o =
        record {
          header = header-fresh o;
          undoes = subst (λ (e : ℕ). Undoes σ e (λ u. 0) (with_line row 0 (header_words 1 σ w))) (sym epoch-fresh) undoes-fresh;
        }
