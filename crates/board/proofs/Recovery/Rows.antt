-- What the stores and write-backs of a recovery do to its rows.
use Prim.Native.Nat.{ℕ, ◌+◌, ◌≤◌, ◌<◌}
use mathlib.Core.Path.{◌≡◌, sym, ap, subst, ◌∙◌}
use mathlib.Core.Logic.{⊎_elim}
use mathlib.Core.Bool.{true, false}
use mathlib.Core.List.{List}
use native.Mathlib.Omega.{arith}
use native.Mathlib.Decide.{ℕ_discrete}
use Rattle.line.specs.Line.{line_of, with_line}
use Rattle.board.specs.Board.{Shape, epoch_of}
use Rattle.board.specs.Location.{Location, Has}
use Rattle.board.proofs.Laws.View.{View, view, logs, place_of, Sized, sized-back, view-back}
use Rattle.board.proofs.Laws.Only.{OnlyAt, at_places}
use Rattle.board.proofs.Invariant.{Undo, Undoes, Kept, Whole, Logs, Restoring}
use Rattle.board.proofs.Laws.Rows.{header-same, epoch-back, header-back, spare-backed}

-- ---- one row

-- Such a row has an epoch.
pub whole-epoch : {σ : Shape} {e : ℕ} {xs : Location → ℕ} {row : List ℕ} → Whole σ e xs row → 0 < e
whole-epoch w = omega (arith, w.header.epoch, w.epoch)

-- Such a row gives the values `xs` in a recovery.
pub whole-kept : {σ : Shape} {e : ℕ} {xs : Location → ℕ} {row : List ℕ} → Whole σ e xs row → Kept σ xs row
whole-kept {σ} {e} {xs} {row} w =
    record { header = w.header; undoes = subst (λ (k : ℕ). Undoes σ k xs row) (sym w.epoch) w.undoes }

-- A change at one place keeps the row whole where the locations there still undo to their values.
pub whole-only : {σ : Shape} {e p : ℕ} {xs : Location → ℕ} (row row' : List ℕ) → OnlyAt σ p row row' →
    ((u : Location) → Has σ u → place_of u ≡ p → Undo u e (xs u) (view row' u)) → Whole σ e xs row → Whole σ e xs row'
whole-only {σ} {e} {p} {xs} row row' only here w =
    record {
      sized = record { size = only.size ∙ w.sized.size };
      header = header-same row row' only.header w.header;
      epoch = only.header 0 (omega arith) ∙ w.epoch;
      undoes = at_places (λ (u : Location). Has σ u → Undo u e (xs u) (view row' u)) p (λ u q b. here u b q)
          (λ u o b. subst (Undo u e (xs u)) (sym (only.others u b o)) (w.undoes u b));
    }

-- A write-back between two whole rows leaves them whole.
pub whole_back : {σ : Shape} {e : ℕ} {xs : Location → ℕ} (memory cache : List ℕ) (i : ℕ) → i ≤ σ.lines → Whole σ e xs memory → Whole σ e xs cache →
    Whole σ e xs (with_line memory i (line_of cache i))
whole_back {σ} {e} {xs} memory cache i h m k =
    record {
      sized = sized-back memory cache m.sized k.sized i h;
      header = header-back memory cache m.sized k.sized i h m.header k.header;
      epoch = epoch-back memory cache m.sized k.sized i h (λ q. k.epoch ∙ sym m.epoch) ∙ m.epoch;
      undoes = λ u b. ⊎_elim
          (λ q. subst (Undo u e (xs u)) (sym q) (k.undoes u b))
          (λ q. subst (Undo u e (xs u)) (sym q) (m.undoes u b))
          (view-back memory cache m.sized k.sized i h u);
    }

-- ---- both rows

-- A change in the cache at the place.
pub logs-only : {σ : Shape} {e place : ℕ} (memory cache cache' : List ℕ) → OnlyAt σ place cache cache' → Logs σ e place memory cache →
    Logs σ e place memory cache'
logs-only {σ} {e} {place} memory cache cache' only k =
    record {
      passed_cache = λ u b h. ap (logs u e) (only.others u b (λ q. omega arith)) ∙ k.passed_cache u b h;
      passed_memory = k.passed_memory;
      ahead = λ u b h q. ap (logs u e) (only.others u b (λ r. omega arith)) ∙ k.ahead u b h q;
    }

-- A write-back of any line.
pub logs-back : {σ : Shape} {e place : ℕ} (memory cache : List ℕ) (i : ℕ) → i ≤ σ.lines → Sized σ memory → Sized σ cache →
    Logs σ e place memory cache → Logs σ e place (with_line memory i (line_of cache i)) cache
logs-back {σ} {e} {place} memory cache i h zm zc k =
    record {
      passed_cache = k.passed_cache;
      passed_memory = λ u b p. both u (λ (v : View). logs u e v ≡ false) (k.passed_cache u b p) (k.passed_memory u b p);
      ahead = λ u b p. both u (λ (v : View). logs u e v ≡ true → logs u e (view cache u) ≡ true) (λ q. q) (k.ahead u b p);
    }
  where
    both : (u : Location) (P : View → Type 0) → P (view cache u) → P (view memory u) → P (view (with_line memory i (line_of cache i)) u)
    both u P p q = ⊎_elim (λ a. subst P (sym a) p) (λ a. subst P (sym a) q) (view-back memory cache zm zc i h u)

-- The place is passed.
pub logs-past : {σ : Shape} {e place : ℕ} {memory cache : List ℕ} →
    ((u : Location) → Has σ u → place_of u ≡ place → (logs u e (view cache u) ≡ false) × (logs u e (view memory u) ≡ false)) →
    Logs σ e place memory cache → Logs σ e (place + 1) memory cache
logs-past {σ} {e} {place} {memory} {cache} off k =
    record {
      passed_cache = one cache k.passed_cache (λ u b q. (off u b q).0);
      passed_memory = one memory k.passed_memory (λ u b q. (off u b q).1);
      ahead = λ u b h q. k.ahead u b (omega arith) q;
    }
  where
    one : (row : List ℕ) → ((u : Location) → Has σ u → place_of u < place → logs u e (view row u) ≡ false) →
        ((u : Location) → Has σ u → place_of u ≡ place → logs u e (view row u) ≡ false) → (u : Location) → Has σ u → place_of u < place + 1 →
        logs u e (view row u) ≡ false
    one row f o u b h =
        elim (ℕ_discrete (place_of u) place) [
          | yes s ↦ o u b s
          | no s ↦ f u b (omega arith)
        ]

module _ {σ : Shape} {e place : ℕ} {xs : Location → ℕ} {memory cache : List ℕ} (k : Restoring σ e xs place memory cache) where
  -- The epoch is memory's.
  pub restoring-own : Restoring σ (epoch_of memory) xs place memory cache
  restoring-own = subst (λ (n : ℕ). Restoring σ n xs place memory cache) (sym k.memory.epoch) k

  -- A change in the cache at the place keeps the rows where the locations there still undo to their values.
  pub restoring-only : (cache' : List ℕ) → OnlyAt σ place cache cache' →
      ((u : Location) → Has σ u → place_of u ≡ place → Undo u e (xs u) (view cache' u)) → Restoring σ e xs place memory cache'
  restoring-only cache' only here =
      record { memory = k.memory; cache = whole-only cache cache' only here k.cache; stamps = logs-only memory cache cache' only k.stamps; spare = λ i j a b p q. only.spare i j p q ∙ k.spare i j a b p q }

  -- A write-back of any line keeps the rows.
  pub restoring-back : (i : ℕ) → i ≤ σ.lines → Restoring σ e xs place (with_line memory i (line_of cache i)) cache
  restoring-back i h =
      record { memory = whole_back memory cache i h k.memory k.cache; cache = k.cache; stamps = logs-back memory cache i h k.memory.sized k.cache.sized k.stamps; spare = spare-backed memory cache k.memory.sized k.cache.sized i h k.spare }

  -- A place whose locations are logged in neither row is passed.
  pub restoring-past : ((u : Location) → Has σ u → place_of u ≡ place → (logs u e (view cache u) ≡ false) × (logs u e (view memory u) ≡ false)) →
      Restoring σ e xs (place + 1) memory cache
  restoring-past off = record { memory = k.memory; cache = k.cache; stamps = logs-past off k.stamps; spare = k.spare }
