-- What stores and write-backs do to the header and to words 6 and 7 of the cell lines.
use Prim.Native.Nat.{ℕ, ◌+◌, ◌≤◌, ◌<◌}
use mathlib.Core.Path.{◌≡◌, refl, sym, ap, subst, ◌∙◌}
use mathlib.Core.List.{List}
use mathlib.Core.Bool.{Bool, false, not, ◌&&◌}
use native.Mathlib.Omega.{arith}
use native.Mathlib.Decide.{ℕ_discrete}
use lib.Dec.{eqb}
use lib.ListN.{get_or, set, length-set}
use lib.Seq.{get_or-set_same, get_or-set_other}
use Rattle.line.specs.declared.Field.{Field}
use Rattle.line.specs.Line.{line_start, line_of, with_line}
use Rattle.line.specs.Cell.{with_field}
use Rattle.line.proofs.Laws.{length-line_of, get_d-line_of, get_d-with_line-in, get_d-with_line-out, header-with_field, header-with_line}
use Rattle.board.specs.Board.{Shape, shaped, outside, epoch_of}
use Rattle.board.specs.Statements.{SameSpare}
use Rattle.board.proofs.Laws.View.{Sized, line-in}
use Rattle.board.proofs.Invariant.{Header, SameSizes, Own}

-- ---- the header

-- Words 3 to 7 that are zero pass the header's test.
pub rest-zero : {a b c d e : ℕ} → a ≡ 0 → b ≡ 0 → c ≡ 0 → d ≡ 0 → e ≡ 0 → not (eqb a 0 && eqb b 0 && eqb c 0 && eqb d 0 && eqb e 0) ≡ false
rest-zero p q r s t = λ i. not (eqb (p i) 0 && eqb (q i) 0 && eqb (r i) 0 && eqb (s i) 0 && eqb (t i) 0)

-- A header with the same sizes and another epoch.
pub header-epoch : {σ : Shape} (row row' : List ℕ) → SameSizes row row' → 0 < epoch_of row' → Header σ row → Header σ row'
header-epoch {σ} row row' same p h =
    record {
      epoch = p;
      shape = ap shaped (same 1 (omega arith) (omega arith)) ∙ h.shape;
      limits = subst (λ (w : ℕ). outside σ w ≡ false) (sym (same 2 (omega arith) (omega arith))) h.limits;
      rest = rest-same (same 3 (omega arith) (omega arith)) (same 4 (omega arith) (omega arith)) (same 5 (omega arith) (omega arith)) (same 6 (omega arith) (omega arith)) (same 7 (omega arith) (omega arith)) h.rest;
    }
  where
    tested : ℕ → ℕ → ℕ → ℕ → ℕ → Bool
    tested a b c d e = not (eqb a 0 && eqb b 0 && eqb c 0 && eqb d 0 && eqb e 0)

    rest-same : {a b c d e a' b' c' d' e' : ℕ} → a' ≡ a → b' ≡ b → c' ≡ c → d' ≡ d → e' ≡ e → tested a b c d e ≡ false → tested a' b' c' d' e' ≡ false
    rest-same p q r s t h = (λ i. tested (p i) (q i) (r i) (s i) (t i)) ∙ h

-- A header with the same words.
pub header-same : {σ : Shape} (row row' : List ℕ) → ((k : ℕ) → k < 8 → get_or row' k 0 ≡ get_or row k 0) → Header σ row → Header σ row'
header-same row row' same h =
    header-epoch row row' (λ k a b. same k b) (subst (λ (e : ℕ). 0 < e) (sym (same 0 (omega arith))) h.epoch) h

-- A cell's store leaves the epoch.
pub epoch-store : (row : List ℕ) (c : ℕ) (f : Field) (v : ℕ) → epoch_of (with_field row c f v) ≡ epoch_of row
epoch-store row c f v = header-with_field row c f v 0 (omega arith)

module _ {σ : Shape} (memory cache : List ℕ) (zm : Sized σ memory) (zc : Sized σ cache) where
  -- Line 0's write-back copies the header.
  pub word-back-header : (k : ℕ) → k < 8 → get_or (with_line memory 0 (line_of cache 0)) k 0 ≡ get_or cache k 0
  word-back-header k h =
      let n = length-line_of cache 0 (line-in cache 0 zc (omega arith)) in
      let a : line_start 0 + k ≡ k = omega arith in
      subst (λ (i : ℕ). get_or (with_line memory 0 (line_of cache 0)) i 0 ≡ get_or cache i 0) a
      (get_d-with_line-in memory 0 (line_of cache 0) k (line-in memory 0 zm (omega arith)) n h ∙ get_d-line_of cache 0 k h)

  -- Another line's leaves it.
  pub word-back-other : (i k : ℕ) → 0 < i → i ≤ σ.lines → k < 8 → get_or (with_line memory i (line_of cache i)) k 0 ≡ get_or memory k 0
  word-back-other i k p h b = header-with_line memory i (line_of cache i) k (line-in memory i zm h) p b

  -- The epoch in memory after a write-back.
  pub epoch-back-header : epoch_of (with_line memory 0 (line_of cache 0)) ≡ epoch_of cache
  epoch-back-header = word-back-header 0 (omega arith)

  pub epoch-back-other : (i : ℕ) → 0 < i → i ≤ σ.lines → epoch_of (with_line memory i (line_of cache i)) ≡ epoch_of memory
  epoch-back-other i p h = word-back-other i 0 p h (omega arith)

  -- Memory's epoch stays, unless line 0 is written back with another.
  pub epoch-back : (i : ℕ) → i ≤ σ.lines → (i ≡ 0 → epoch_of cache ≡ epoch_of memory) → epoch_of (with_line memory i (line_of cache i)) ≡ epoch_of memory
  epoch-back i h e =
      elim (ℕ_discrete i 0) [
        | yes z ↦ subst (λ (j : ℕ). epoch_of (with_line memory j (line_of cache j)) ≡ epoch_of memory) (sym z) (epoch-back-header ∙ e z)
        | no o ↦ epoch-back-other i (omega arith) h
      ]

  -- Memory's header is good after a write-back of any line, where both headers were.
  pub header-back : (i : ℕ) → i ≤ σ.lines → Header σ memory → Header σ cache → Header σ (with_line memory i (line_of cache i))
  header-back i h hm hc =
      elim (ℕ_discrete 0 i) [
        | yes e ↦ subst (λ (j : ℕ). Header σ (with_line memory j (line_of cache j))) e (header-same cache (with_line memory 0 (line_of cache 0)) word-back-header hc)
        | no o ↦ header-same memory (with_line memory i (line_of cache i)) (λ k b. word-back-other i k (omega arith) h b) hm
      ]

  -- The sizes in memory stay, where the cache has them too.
  pub sizes-back : (i : ℕ) → i ≤ σ.lines → SameSizes memory cache → SameSizes memory (with_line memory i (line_of cache i))
  sizes-back i h same k p b =
      elim (ℕ_discrete 0 i) [
        | yes e ↦ subst (λ (j : ℕ). get_or (with_line memory j (line_of cache j)) k 0 ≡ get_or memory k 0) e (word-back-header k b ∙ same k p b)
        | no o ↦ word-back-other i k (omega arith) h b
      ]

  -- Words 6 and 7 in memory stay after a write-back, where the cache has them too.
  pub spare-back : (i : ℕ) → i ≤ σ.lines → SameSpare σ memory cache → SameSpare σ memory (with_line memory i (line_of cache i))
  spare-back i h same j k a b c d =
      let n = length-line_of cache i (line-in cache i zc h) in
      elim (ℕ_discrete i j) [
        | yes e ↦ subst (λ (q : ℕ). get_or (with_line memory i (line_of cache i)) (line_start q + k) 0 ≡ get_or memory (line_start q + k) 0) e
            (get_d-with_line-in memory i (line_of cache i) k (line-in memory i zm h) n d ∙ get_d-line_of cache i k d ∙ same i k (omega arith) h c d)
        | no o ↦ get_d-with_line-out memory i (line_of cache i) (line_start j + k) (line-in memory i zm h) n (λ e. o (omega arith))
      ]

  -- They are still the cache's.
  pub spare-backed : (i : ℕ) → i ≤ σ.lines → SameSpare σ memory cache → SameSpare σ (with_line memory i (line_of cache i)) cache
  spare-backed i h same j k a b c d = same j k a b c d ∙ sym (spare-back i h same j k a b c d)

-- The sizes stay memory's where neither row's change.
pub own_same : {w : ℕ} {memory cache memory' cache' : List ℕ} → SameSizes memory memory' → SameSizes cache cache' → Own w memory cache → Own w memory' cache'
own_same m c o =
    record {
      header = λ k p q. c k p q ∙ o.header k p q ∙ sym (m k p q);
      workers = o.workers ∙ sym (m 2 (omega arith) (omega arith));
    }

-- A row keeps its own sizes.
pub sizes-same : (row : List ℕ) → SameSizes row row
sizes-same row k p q = refl

pub sizes-set : (row : List ℕ) (e : ℕ) → SameSizes row (set row 0 e)
sizes-set row e k p q = get_or-set_other row 0 k e 0 (λ n. omega arith)

-- ---- the epoch's store

-- The epoch's store in a row.
pub epoch-set : {σ : Shape} (row : List ℕ) (e : ℕ) → Sized σ row → epoch_of (set row 0 e) ≡ e
epoch-set row e z = get_or-set_same row 0 e 0 (omega (arith, z.size))

pub sized_set : {σ : Shape} (row : List ℕ) (e : ℕ) → Sized σ row → Sized σ (set row 0 e)
sized_set row e z = record { size = length-set row 0 e ∙ z.size }

pub header-set : {σ : Shape} (row : List ℕ) (e : ℕ) → Sized σ row → 0 < e → Header σ row → Header σ (set row 0 e)
header-set row e z p h =
    header-epoch row (set row 0 e) (sizes-set row e) (subst (λ (n : ℕ). 0 < n) (sym (epoch-set row e z)) p) h

pub spare-set : {σ : Shape} (memory row : List ℕ) (e : ℕ) → SameSpare σ memory row → SameSpare σ memory (set row 0 e)
spare-set memory row e s i k a b p q = get_or-set_other row 0 (line_start i + k) e 0 (λ n. omega arith) ∙ s i k a b p q
