-- A format's steps one by one: each writes its own line in both rows, and no other.
use Prim.Native.Nat.{ℕ, zero, suc, ◌+◌, ◌≤◌, ◌<◌}
use mathlib.Core.Path.{◌≡◌, refl, sym, subst, ◌∙◌}
use mathlib.Core.List.{List}
use native.Mathlib.Omega.{arith}
use lib.ListN.{length}
use Rattle.line.specs.Line.{with_line}
use Rattle.line.proofs.Laws.{length-with_line, get_d-with_line-in, get_d-with_line-out}
use Rattle.board.specs.declared.Call.TheVariants.{FormatStart, Step}
use Rattle.board.specs.Board.{Board, Shape, shaped, shape_of, header_words, zero_words}
use Rattle.board.specs.Effects.{effect}
use Rattle.board.specs.Next.{next, Taken}
use Rattle.board.specs.Statements.{steps_from, AllTaken}
use Rattle.board.specs.Steps.{OnlyLine, OnlyLineInBoth, format_after, FormatWrites}
use Rattle.board.proofs.Laws.View.{Sized, line-in}
use Rattle.board.proofs.Laws.Taken.{taken_next}
use Rattle.board.proofs.Format.Board.{InFormat, format-begins, erasing, erasing-step, format-erases, finishing, finishing-step}
use Rattle.board.proofs.Format.Ends.{format-ends}

-- ---- one step after others

-- The last of several steps is a step from where the others led.
steps-last : (i : ℕ) (b : Board) → steps_from (suc i) b ≡ next Step (steps_from i b)
unfolding steps_from
steps-last zero b = refl
steps-last (suc i) b = steps-last i (next Step b)

-- Of several steps that are all taken each one is.
step-taken : (n i : ℕ) (b : Board) → AllTaken n b → i < n → Taken Step (steps_from i b)
unfolding steps_from AllTaken
step-taken zero i b t h = absurd (omega arith)
step-taken (suc n) zero b t h = t.0
step-taken (suc n) (suc i) b t h = step-taken n i (next Step b) t.1 (omega arith)

-- ---- a format from its start on

-- A format (l, w) at place `i`.
record At (l w i : ℕ) (b : Board) : Type 0 where
  formats : InFormat (shaped l) b
  place : b.state.place ≡ i
  workers : b.state.workers ≡ w

-- A taken start leaves a format at place 0.
at-start : (l w : ℕ) (b : Board) → Taken (FormatStart l w) b → At l w 0 (effect (FormatStart l w) b)
unfolding effect
at-start l w b t = record { formats = (format-begins l w b t).0; place = (format-begins l w b t).1; workers = refl }

-- A step that is not the last leaves it one place further.
at_next : (l w i : ℕ) (b : Board) → At l w i b → i ≤ l → At l w (suc i) (erasing b)
at_next l w i b a h =
    let e = format-erases (shaped l) b a.formats (omega (arith, a.place)) in
    record { formats = e.formats; place = omega (arith, a.place); workers = a.workers }

module _ (l w : ℕ) (b : Board) (t : Taken (FormatStart l w) b) where
  -- A step up to place L + 1 is its effect.
  format-step-at : (i : ℕ) → i ≤ l + 1 → format_after l w b (suc i) ≡ effect Step (format_after l w b i)
  format-step-at i h =
      steps-last i (next (FormatStart l w) b)
      ∙ taken_next Step (format_after l w b i) (step-taken (l + 2) i (next (FormatStart l w) b) (format-ends l w b t).0 (omega arith))

  -- After `i` steps the format is at place `i`.
  format-at : (i : ℕ) → i ≤ l + 1 → At l w i (format_after l w b i)
  unfolding steps_from
  format-at zero h = subst (At l w 0) (sym (taken_next (FormatStart l w) b t)) (at-start l w b t)
  format-at (suc i) h =
      let a = format-at i (omega arith) in
      subst (At l w (suc i))
      (sym (format-step-at i (omega arith) ∙ erasing-step (shaped l) (format_after l w b i) a.formats (omega (arith, a.place))))
      (at_next l w i (format_after l w b i) a (omega arith))

-- ---- one line stored

-- A stored line differs alone.
pub only-line : {σ : Shape} (row : List ℕ) (i : ℕ) (words : List ℕ) → Sized σ row → i ≤ σ.lines → length words ≡ 8 → OnlyLine i words row (with_line row i words)
only-line row i words z h n =
    let inside = line-in row i z h in
    record {
      others = λ j o. get_d-with_line-out row i words j inside n o;
      size = length-with_line row i words inside n;
      words = λ k b. get_d-with_line-in row i words k inside n b;
    }

-- A step that is not the last writes zeros in the line at its place.
erasing-line : (l w i : ℕ) (b : Board) → At l w i b → i ≤ l → OnlyLineInBoth i zero_words b (erasing b)
erasing-line l w i b a h =
    let z = a.formats.sizes in
    subst (λ (j : ℕ). OnlyLineInBoth j zero_words b (erasing b)) a.place
    (record {
      memory = only-line b.memory b.state.place zero_words z.memory (omega (arith, a.place)) refl;
      cache = only-line b.cache b.state.place zero_words z.cache (omega (arith, a.place)) refl;
    })

-- The header that a format's last step stores.
abbrev header_of : Board → List ℕ
header_of b = header_words 1 (shape_of b.state) b.state.workers

-- The last step writes the header in line 0.
finishing-line : (l w i : ℕ) (b : Board) → At l w i b → OnlyLineInBoth 0 (header_words 1 (shaped l) w) b (finishing b)
finishing-line l w i b a =
    let z = a.formats.sizes in
    let e : header_of b ≡ header_words 1 (shaped l) w = λ i. header_words 1 (a.formats.format.own.shape i) (a.workers i) in
    subst (λ (words : List ℕ). OnlyLineInBoth 0 words b (finishing b)) e
    (record {
      memory = only-line b.memory 0 (header_of b) z.memory (omega arith) refl;
      cache = only-line b.cache 0 (header_of b) z.cache (omega arith) refl;
    })

-- Each step of a format writes its line alone.
pub format-writes : FormatWrites
format-writes l w b t = (
  λ i h. let a = format-at l w b t i (omega arith) in
      subst (OnlyLineInBoth i zero_words (format_after l w b i))
      (sym (format-step-at l w b t i (omega arith) ∙ erasing-step (shaped l) (format_after l w b i) a.formats (omega (arith, a.place))))
      (erasing-line l w i (format_after l w b i) a h),
  let a = format-at l w b t (l + 1) (omega arith) in
      subst (OnlyLineInBoth 0 (header_words 1 (shaped l) w) (format_after l w b (l + 1)))
      (sym (format-step-at l w b t (l + 1) (omega arith) ∙ finishing-step (shaped l) (format_after l w b (l + 1)) a.formats a.place))
      (finishing-line l w (l + 1) (format_after l w b (l + 1)) a),
)
