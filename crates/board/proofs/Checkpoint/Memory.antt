-- Memory after a line's write-back: what recovery would give from it, and its cells.
use Prim.Native.Nat.{ℕ, ◌+◌, ◌≤◌}
use mathlib.Core.Path.{◌≡◌, refl, sym, subst, ◌∙◌}
use mathlib.Core.Logic.{⊎_elim}
use mathlib.Core.List.{List}
use mathlib.Core.Bool.{true≢false}
use native.Mathlib.Omega.{arith}
use Rattle.line.specs.Line.{line_of, with_line}
use Rattle.line.proofs.Laws.{length-line_of}
use Rattle.board.specs.Board.{Shape, epoch_of}
use Rattle.board.specs.Location.{Location, Has}
use Rattle.board.proofs.Laws.View.{View, view, next-epoch, Sized, line-positive, line-in, view-line-out, view-back}
use Rattle.board.proofs.Invariant.{Undo, Undoes, Header, Kept}
use Rattle.board.proofs.Laws.Rows.{epoch-back-header, epoch-back, header-back}

-- In the next epoch a location is undone to its value.
pub undo-next : (u : Location) {e n x : ℕ} (y : ℕ) (v : View) → n ≡ e + 1 → Undo u e x v → v.value ≡ y → Undo u n y v
undo-next u {e} y v q k same =
    let later = next-epoch u e v k.fit in
    subst (λ (n : ℕ). Undo u n y v) (sym q) (record { logged = λ t. absurd (true≢false (sym t ∙ later.0)); plain = λ o. same; fit = later.1 })

-- Undoing gives values that are equal cell by cell.
pub undoes-same : (σ : Shape) {e : ℕ} (xs ys : Location → ℕ) (row : List ℕ) → ((c : Location) → Has σ c → xs c ≡ ys c) → Undoes σ e xs row → Undoes σ e ys row
undoes-same σ {e} xs ys row same u c h = subst (λ (x : ℕ). Undo c e x (view row c)) (same c h) (u c h)

-- Recovery gives values that are equal cell by cell.
pub kept_same : {σ : Shape} {xs : Location → ℕ} (ys : Location → ℕ) (row : List ℕ) → ((c : Location) → Has σ c → xs c ≡ ys c) → Kept σ xs row → Kept σ ys row
kept_same {σ} {xs} ys row same k = record { header = k.header; undoes = undoes-same σ xs ys row same k.undoes }

module _ {σ : Shape} (memory cache : List ℕ) (zm : Sized σ memory) (zc : Sized σ cache) where
  -- What is true of a cell in the cache and in memory is true of it in memory after any line's write-back.
  pub both-back : (P : View → Type 0) (i : ℕ) (c : Location) → i ≤ σ.lines → P (view cache c) → P (view memory c) →
      P (view (with_line memory i (line_of cache i)) c)
  both-back P i c h p q = ⊎_elim (λ e. subst P (sym e) p) (λ e. subst P (sym e) q) (view-back memory cache zm zc i h c)

  -- A record that was the cache's stays so.
  pub value-back : (i : ℕ) (c : Location) → i ≤ σ.lines → (view memory c).value ≡ (view cache c).value →
      (view (with_line memory i (line_of cache i)) c).value ≡ (view cache c).value
  value-back i c h e = both-back (λ (v : View). v.value ≡ (view cache c).value) i c h refl e

  -- After any line's write-back recovery gives what it gave before, where the cache too gives it by memory's epoch and that epoch stays.
  pub kept_back : (xs : Location → ℕ) (i : ℕ) → i ≤ σ.lines → (i ≡ 0 → epoch_of cache ≡ epoch_of memory) → Header σ cache →
      Undoes σ (epoch_of memory) xs cache → Kept σ xs memory → Kept σ xs (with_line memory i (line_of cache i))
  kept_back xs i h e hc u k =
      record {
        header = header-back memory cache zm zc i h k.header hc;
        undoes = λ c b.
            subst (λ (n : ℕ). Undo c n (xs c) (view (with_line memory i (line_of cache i)) c)) (sym (epoch-back memory cache zm zc i h e))
            (both-back (Undo c (epoch_of memory) (xs c)) i c h (u c b) (k.undoes c b));
      }

  -- Line 0's write-back leaves every cell.
  pub view-back-header : (c : Location) → Has σ c → view (with_line memory 0 (line_of cache 0)) c ≡ view memory c
  view-back-header c b =
      view-line-out memory 0 (line_of cache 0) c zm (omega arith) (length-line_of cache 0 (line-in cache 0 zc (omega arith))) (λ e. omega (arith, line-positive σ c b))

  -- Line 0's write-back with the next epoch: recovery gives the records, which memory has as the cache has them.
  pub kept_next : (xs ys : Location → ℕ) → epoch_of cache ≡ epoch_of memory + 1 → Header σ cache → Kept σ xs memory →
      ((c : Location) → Has σ c → (view memory c).value ≡ ys c) → Kept σ ys (with_line memory 0 (line_of cache 0))
  kept_next xs ys e hc k same =
      record {
        header = header-back memory cache zm zc 0 (omega arith) k.header hc;
        undoes = λ c b.
            let n = epoch_of (with_line memory 0 (line_of cache 0)) in
            let later : n ≡ epoch_of memory + 1 = epoch-back-header memory cache zm zc ∙ e in
            subst (Undo c n (ys c)) (sym (view-back-header c b)) (undo-next c (ys c) (view memory c) later (k.undoes c b) (same c b));
      }

  -- Then the cache gives the records too, by the next epoch.
  pub undoes-next : (xs ys : Location → ℕ) → epoch_of cache ≡ epoch_of memory + 1 → Undoes σ (epoch_of memory) xs cache →
      ((c : Location) → Has σ c → (view cache c).value ≡ ys c) → Undoes σ (epoch_of (with_line memory 0 (line_of cache 0))) ys cache
  undoes-next xs ys e u same c b =
      let later : epoch_of (with_line memory 0 (line_of cache 0)) ≡ epoch_of memory + 1 = epoch-back-header memory cache zm zc ∙ e in
      undo-next c (ys c) (view cache c) later (u c b) (same c b)
