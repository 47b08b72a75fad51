-- `page::page` meets its contract: taken, the page is written; refused, nothing is.
use Prim.Native.Nat.{ℕ, ◌≤◌}
use mathlib.Core.Path.{◌≡◌, refl, sym, ap, ◌∙◌}
use mathlib.Core.Bool.{not}
use mathlib.Core.List.{List}
use lib.Dec.{eqb}
use lib.ListN.{length}
use borrow.Author.Tests.{ltb-false, eqb-true, eq-eqb, ne_eqb}
use Rattle.text.specs.Writing.{put}
use Rattle.predicate.proofs.Bools.{chosen, passed_over, not-off, or_left}
use Rattle.board.specs.Board.{Board, shape_of, cells, row_words}
use Rattle.board.specs.Next.{lent}
use Rattle.board.specs.Page.{page_text, page_bytes, page_causes, page_cause, page_left, PagePerformed}
use Rattle.board.proofs.Laws.Taken.{numbered, Clear, first-clear, limits-in, record-within}
use Rattle.std.specs.Prelude.{Result, Ok, Err}
use Rattle.std.specs.Result.{IsErrAnd}
use Rattle.causes.specs.declared.refusals.Refusal.{Refusal}
use Rattle.causes.specs.Refusals.{number_of, answer_number}
use Rattle.causes.proofs.Guard.{no_refusal_is_taken}
use Rattle.page.proofs.page.Goals as goal

-- What a taken page has passed.
pub record Passed (b : Board) (text : List ℕ) : Type 0 where
  pub lines : b.state.lines ≤ 511
  pub cache : length b.cache ≡ row_words b.state.lines
  pub room : page_bytes (shape_of b.state) ≤ length text

passed : (b : Board) (text : List ℕ) → page_cause b text ≡ 0 → Passed b text
unfolding page_cause page_causes numbered Clear
passed b text e =
    let clear = first-clear (page_causes b text) refl e in
    record {
      lines = (limits-in (shape_of b.state) b.state.workers (record-within b.state clear.1.0).limits).lines;
      cache = let c = eqb (length b.cache) (row_words b.state.lines) in
          let m = eqb (length b.memory) (row_words b.state.lines) in eqb-true (length b.cache) (row_words b.state.lines) (not-off c (or_left (not c) (not m) clear.1.1.0));
      room = ltb-false (length text) (page_bytes (shape_of b.state)) clear.1.1.1.0;
    }

-- A page that is taken and written.
page-taken : (b : Board) (text left : List ℕ) (number : ℕ) → number ≡ page_cause b text → number ≡ 0 →
    left ≡ put text 0 (page_text b.cache (cells (shape_of b.state))) → PagePerformed b text number b left
unfolding page_left
page-taken b text left number e z w =
    let same : left ≡ page_left b text = w ∙ sym (chosen (eqb (page_cause b text) 0) (put text 0 (page_text b.cache (cells (shape_of b.state)))) text (eq-eqb (page_cause b text) 0 (sym e ∙ z))) in
    λ i. record { number = e i; board = b; text = same i }

-- A page that is refused.
page-refused : (b : Board) (text : List ℕ) (number : ℕ) → number ≡ page_cause b text → (number ≡ 0 → ⊥) → PagePerformed b text number b text
unfolding page_left
page-refused b text number e z =
    let same : text ≡ page_left b text = sym (passed_over (eqb (page_cause b text) 0) (put text 0 (page_text b.cache (cells (shape_of b.state)))) text (ne_eqb (page_cause b text) 0 (λ q. z (e ∙ q)))) in
    λ i. record { number = e i; board = b; text = same i }

-- By a cause, which is no taken call's answer.
refused-by : (b : Board) (text : List ℕ) (r : Result (Unit {0}) Refusal) (e : Refusal) → IsErrAnd r (λ x. x ≡ e) → number_of e ≡ page_cause b text →
    PagePerformed b text (answer_number r) b text
refused-by b text (Ok x) e h f = absurd h
refused-by b text (Err x) e h f = page-refused b text (number_of x) (ap number_of h ∙ f) (no_refusal_is_taken x)

pub put_page-requires : goal.put_page-requires
put_page-requires c =
    let p = passed (lent c.args.state c.args.memory.now c.args.cache.now) c.args.text.now (sym c.in_ok-of_page.ensures) in (p.lines, p.cache, p.room)

pub returns-in_err-of_page : goal.returns-in_err-of_page
returns-in_err-of_page c =
    record { performed = refused-by (lent c.args.state c.args.memory.now c.args.cache.now) c.args.text.now c.from_residual.result _ c.from_residual.ensures.1 c.in_err-of_page.ensures }

pub returns : goal.returns
returns c =
    record { performed = page-taken (lent c.args.state c.args.memory.now c.args.cache.now) c.args.text.now _ 0 c.in_ok-of_page.ensures refl c.put_page.ensures }
