-- What a format's start and steps leave, on any board: nothing is known of what its rows held.
use Prim.Native.Nat.{ℕ, ◌+◌, ◌/◌, ◌≤◌}
use mathlib.Core.Path.{◌≡◌, refl, sym, ap, subst, subst₂, ◌∙◌}
use mathlib.Core.List.{List}
use mathlib.Core.Bool.{false, cond, not}
use native.Mathlib.Omega.{arith}
use lib.Dec.{leb, eqb}
use lib.ListN.{length, get_or}
use borrow.Author.Tests.{eqb-true, le-leb, lt-leb}
use Rattle.line.specs.Line.{with_line}
use Rattle.board.specs.declared.Phase.{Phase}
use Rattle.board.specs.declared.Phase.TheVariants.{Formatting, Running}
use Rattle.board.specs.declared.Call.TheVariants.{FormatStart, Step}
use Rattle.bitset.specs.Words.{empty}
use Rattle.board.specs.Board.{Board, Shape, shaped, shape_of, row_words, shape_outside, outside, epoch_of, header_words, zero_words}
use Rattle.board.specs.State.{placed, opened}
use Rattle.board.specs.Causes.{causes, bad_rows}
use Rattle.board.specs.Effects.{effect, step, format_step, in_both}
use Rattle.board.specs.Machine.{beginning}
use Rattle.board.specs.Statements.{Spare, SameSpare}
use Rattle.predicate.proofs.Bools.{chosen, passed_over, or_left, or_right, not-off}
use Rattle.board.specs.Location.{Location, Has}
use Rattle.board.proofs.Laws.View.{logs, zeros, zeros-fit, View, view, Sized}
use Rattle.board.proofs.Invariant.{Header, Own, Kept, Zeroed, Lengths, Undoes, FormatInv, RowsPart, CheckpointPart, RunningInv}
use Rattle.board.proofs.Laws.Parts.{free_part, unbegun-part}
use Rattle.board.proofs.Laws.Locks.{unheld-under}
use Rattle.board.proofs.Laws.Taken.{stands_at, passed, limits-in, same_lines}
use Rattle.board.proofs.Format.Rows.{zeroed-none, sized-erased, word-erase, zeroed-erase, epoch-erase, word-header, sized_fresh, epoch-fresh, header-fresh, view-fresh, spare-fresh, undoes-fresh, kept_fresh}
use Rattle.board.specs.Next.{Taken}

-- A board in a format.
pub record InFormat (σ : Shape) (b : Board) : Type 0 where
  pub sizes : Lengths σ b.memory b.cache
  pub format : FormatInv σ b
  pub phase : b.state.phase ≡ Formatting

-- ---- the start

-- Rows that pass the test have the lengths that the shape asks.
pub rows-sized : (σ : Shape) (b : Board) → shape_outside σ ≡ false → bad_rows σ.lines b ≡ false → Lengths σ b.memory b.cache
rows-sized σ b o e =
    let cache = eqb (length b.cache) (row_words σ.lines) in
    let memory = eqb (length b.memory) (row_words σ.lines) in
    record {
      limits = o;
      memory = record { size = eqb-true _ _ (not-off memory (or_right (not cache) (not memory) e)) };
      cache = record { size = eqb-true _ _ (not-off cache (or_left (not cache) (not memory) e)) };
    }

-- A taken format's start finds rows of the right lengths.
pub start-sizes : (l w : ℕ) (b : Board) → Taken (FormatStart l w) b → Lengths (shaped l) b.memory b.cache
unfolding stands_at causes
start-sizes l w b t = rows-sized (shaped l) b (limits-in (shaped l) w (passed (FormatStart l w) b t 1)).shape (passed (FormatStart l w) b t 4)

-- A taken format's start leaves a board in a format, at its beginning.
pub format-begins : (l w : ℕ) (b : Board) → Taken (FormatStart l w) b →
    InFormat (shaped l) (effect (FormatStart l w) b) × ((effect (FormatStart l w) b).state.place ≡ 0)
unfolding stands_at causes effect
format-begins l w b t = (
  record {
    sizes = start-sizes l w b t;
    format =
        record {
          own = record { shape = refl; limits = passed (FormatStart l w) b t 1; holders = unheld-under w; eight = refl };
          request = refl;
          within = omega arith;
          epoch = λ h. absurd (omega arith);
          memory = zeroed-none (shaped l) b.memory;
          cache = zeroed-none (shaped l) b.cache;
        };
    phase = refl;
  },
  refl,
)

-- ---- the two kinds of step

-- The board with the line at the place erased in both rows.
abbrev pub erasing : Board → Board
erasing b = in_both b.state.place zero_words (placed b.state (b.state.place + 1) b.state.undo) b

-- The board with the header stored in both rows, and open.
abbrev pub finishing : Board → Board
finishing b = in_both 0 (header_words 1 (shape_of b.state) b.state.workers) (opened b.state empty) b

-- What a format's step does, by its place.
format-step : (σ : Shape) (b : Board) → InFormat σ b → effect Step b ≡ cond (leb b.state.place b.state.lines) (erasing b) (finishing b)
unfolding effect step format_step
format-step σ b f = ap (λ (p : Phase). step p b.state b) f.phase

-- ---- a step that is not the last

-- What a format's step that is not the last leaves.
pub record Erased (σ : Shape) (b b' : Board) : Type 0 where
  pub formats : InFormat σ b'
  pub place : b'.state.place ≡ b.state.place + 1
  pub epoch : epoch_of b'.memory ≡ 0
  pub spare : Spare σ (λ i. cond (eqb (i / 8) b.state.place) 0 (get_or b.memory i 0)) b'.memory

-- Up to place L a format's step erases a line.
pub erasing-step : (σ : Shape) (b : Board) → InFormat σ b → b.state.place ≤ σ.lines → effect Step b ≡ erasing b
erasing-step σ b f h =
    format-step σ b f ∙ chosen (leb b.state.place b.state.lines) (erasing b) (finishing b) (le-leb b.state.place b.state.lines (omega (arith, same_lines f.format.own.shape)))

-- The board is then still in its format, one line further.
pub format-erases : (σ : Shape) (b : Board) → InFormat σ b → b.state.place ≤ σ.lines → Erased σ b (erasing b)
format-erases σ b f h =
    let p = b.state.place in
    let zm = f.sizes.memory in
    let zc = f.sizes.cache in
    let erased = epoch-erase b.memory p zm h f.format.epoch in
    record {
      formats =
          record {
            sizes =
                record {
                  limits = f.sizes.limits;
                  memory = sized-erased b.memory p zm h;
                  cache = sized-erased b.cache p zc h;
                };
            format =
                record {
                  own = f.format.own;
                  request = f.format.request;
                  within = omega arith;
                  epoch = λ u. erased;
                  memory = zeroed-erase b.memory p zm h f.format.memory;
                  cache = zeroed-erase b.cache p zc h f.format.cache;
                };
            phase = f.phase;
          };
      place = refl;
      epoch = erased;
      spare = λ i k a c q d. word-erase b.memory p zm h i k d;
    }

-- ---- the last step

-- A finished format.
pub record Fresh (σ : Shape) (b : Board) : Type 0 where
  pub sizes : Lengths σ b.memory b.cache
  pub spare : Spare σ (λ i. 0) b.memory
  pub kept : Kept σ (λ u. 0) b.memory
  pub epoch : epoch_of b.memory ≡ 1
  pub running : RunningInv σ b (beginning σ)
  pub phase : b.state.phase ≡ Running

-- At place L + 1 a format's step stores the header and opens the board.
pub finishing-step : (σ : Shape) (b : Board) → InFormat σ b → b.state.place ≡ σ.lines + 1 → effect Step b ≡ finishing b
finishing-step σ b f e =
    format-step σ b f ∙ passed_over (leb b.state.place b.state.lines) (erasing b) (finishing b) (lt-leb b.state.place b.state.lines (omega (arith, same_lines f.format.own.shape)))

-- The rows that a format's last step leaves: all locations zeros, in epoch 1.
pub record FreshRows (σ : Shape) (w : ℕ) (memory cache : List ℕ) : Type 0 where
  pub memory_epoch : epoch_of memory ≡ 1
  pub cache_epoch : epoch_of cache ≡ 1
  pub header : Header σ cache
  pub sizes : Own w memory cache
  pub undoes : Undoes σ 1 (λ u. 0) cache
  pub spare : SameSpare σ memory cache
  pub memory_zeros : (u : Location) → Has σ u → view memory u ≡ zeros
  pub cache_zeros : (u : Location) → Has σ u → view cache u ≡ zeros

-- They are those of a board that runs beside the machine at its beginning.
fresh-part : {σ : Shape} {w : ℕ} {memory cache : List ℕ} → FreshRows σ w memory cache → RowsPart σ w (λ u. 0) (λ u. 0) memory cache
fresh-part {σ} {cache = cache} o =
    record {
      sizes = o.sizes;
      header = o.header;
      undoes = subst (λ (e : ℕ). Undoes σ e (λ u. 0) cache) (sym o.memory_epoch) o.undoes;
      current = λ u h. ap (λ (v : View). v.value) (o.cache_zeros u h);
      spare = o.spare;
    }

-- Its checkpoint is to come, with no line dirty.
fresh-checkpoint : (σ : Shape) (b : Board) → FreshRows σ b.state.workers b.memory b.cache → b.state.requested ≡ false →
    b.state.dirty ≡ empty → CheckpointPart σ b (beginning σ)
fresh-checkpoint σ b o quiet clean =
    unbegun-part b (beginning σ) refl quiet clean (λ u. refl) (o.cache_epoch ∙ sym o.memory_epoch)
    (λ u h. subst₂ (λ (e : ℕ) (v : View). logs u e v ≡ false) (sym o.memory_epoch) (sym (o.cache_zeros u h)) (zeros-fit u 1 (omega arith)).0)
    (λ u h. ap (λ (v : View). v.value) (o.memory_zeros u h ∙ sym (o.cache_zeros u h)))

-- The rows of a format at its last place, with the header stored.
pub fresh-rows : (σ : Shape) (w : ℕ) (memory cache : List ℕ) → Sized σ memory → Sized σ cache → Zeroed σ (σ.lines + 1) memory →
    Zeroed σ (σ.lines + 1) cache → outside σ w ≡ false →
    FreshRows σ w (with_line memory 0 (header_words 1 σ w)) (with_line cache 0 (header_words 1 σ w))
fresh-rows σ w memory cache zm zc fm fc o =
    record {
      memory_epoch = epoch-fresh memory w zm;
      cache_epoch = epoch-fresh cache w zc;
      header = header-fresh cache w zc o;
      sizes = record { header = λ k p q. word-header cache w zc k q ∙ sym (word-header memory w zm k q); workers = sym (word-header memory w zm 2 (omega arith)) };
      undoes = undoes-fresh cache w zc fc;
      spare = λ i k a b c d. spare-fresh cache w zc fc i k a b c d ∙ sym (spare-fresh memory w zm fm i k a b c d);
      memory_zeros = view-fresh memory w zm fm;
      cache_zeros = view-fresh cache w zc fc;
    }

-- The last step, with the shape read in the state record.
own-finishes : (b : Board) → InFormat (shape_of b.state) b → b.state.place ≡ b.state.lines + 1 → Fresh (shape_of b.state) (finishing b)
own-finishes b f e =
    let σ = shape_of b.state in
    let w = b.state.workers in
    let zm = f.sizes.memory in
    let zc = f.sizes.cache in
    let own = f.format.own in
    let fm : Zeroed σ (σ.lines + 1) b.memory = subst (λ (p : ℕ). Zeroed σ p b.memory) e f.format.memory in
    let fc : Zeroed σ (σ.lines + 1) b.cache = subst (λ (p : ℕ). Zeroed σ p b.cache) e f.format.cache in
    let rows = fresh-rows σ w b.memory b.cache zm zc fm fc own.limits in
    record {
      sizes = record { limits = f.sizes.limits; memory = sized_fresh b.memory w zm; cache = sized_fresh b.cache w zc };
      spare = spare-fresh b.memory w zm fm;
      kept = kept_fresh b.memory w zm fm own.limits;
      epoch = epoch-fresh b.memory w zm;
      running = record {
        own = record { shape = refl; limits = own.limits; holders = own.holders; eight = refl };
        rows = fresh-part rows;
        workers = free_part (finishing b).state (finishing b).cache refl (λ n. refl);
        checkpoint = fresh-checkpoint σ (finishing b) rows f.format.request refl;
      };
      phase = refl;
    }

-- The board is then as a finished format leaves it, beside a machine that begins.
pub format-finishes : (σ : Shape) (b : Board) → InFormat σ b → b.state.place ≡ σ.lines + 1 → Fresh σ (finishing b)
format-finishes σ b f e =
    let same = f.format.own.shape in
    subst (λ (τ : Shape). Fresh τ (finishing b)) same
    (own-finishes b (subst (λ (τ : Shape). InFormat τ b) (sym same) f) (omega (arith, same_lines f.format.own.shape)))
