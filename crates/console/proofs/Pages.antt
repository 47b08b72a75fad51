-- What is printed of a board, from what the page's call left of the text row.
use Rattle.std.proofs.Common.{◌≡◌, ℕ, ◌≤◌, Bool, true, false, cond, eqb, ltb, List, [], ◌∷◌, length, take, sym, refl, ap, ◌∙◌, arith, le-ltb, eq-eqb, ne_eqb}
use lib.ListN.{length-replicate}
use Rattle.board.specs.Board.{Board, shaped, shape_of, cells, outside}
use Rattle.board.specs.Causes.{check, guarded, bad_record, bad_rows, not_running, first_standing}
use Rattle.board.specs.Page.{page_text, page_bytes, page_causes, page_cause, page_left, PageOutcome, PagePerformed}
use Rattle.predicate.proofs.Bools.{chosen, passed_over, clash, or_left}
use Rattle.board.proofs.Laws.Taken.{numbered, Clear, first-clear}
use Rattle.text.proofs.Writing.{put_front}
use Rattle.session.proofs.Formats.{lines-within}
use Rattle.console.specs.Printing.{printing, largest_row, printed_of, NeverShort}

-- A page's number goes by the text row's length alone.
cause-by-length : (b : Board) (s t : List ℕ) → length s ≡ length t → page_cause b s ≡ page_cause b t
unfolding page_cause page_causes
cause-by-length b s t e =
    ap (λ (n : ℕ). first_standing (guarded (not_running b) b (check 12 (ltb n (page_bytes (shape_of b.state))) ∷ []))) e

-- The row that is lent has the largest page's length.
pub largest_size : length largest_row ≡ page_bytes (shaped 511)
unfolding largest_row
largest_size = length-replicate {A = ℕ} (page_bytes (shaped 511)) 0

-- A record that is not bad has its lines within the limits.
pub lines-fine : (b : Board) → bad_record b.state ≡ false → b.state.lines ≤ 511
unfolding bad_record
lines-fine b e =
    let s = b.state in
    lines-within s.lines s.workers (or_left (outside (shape_of s) s.workers) _ (or_left _ _ (or_left _ _ (or_left _ _ e))))

-- A page that is taken is of a board within the limits.
taken-lines : (b : Board) (text : List ℕ) → page_cause b text ≡ 0 → b.state.lines ≤ 511
unfolding page_cause page_causes numbered Clear
taken-lines b text e = lines-fine b (first-clear (page_causes b text) refl e).1.0

module _ (b : Board) (text left : List ℕ) (number : ℕ) (after : Board) (size : length text ≡ page_bytes (shaped 511)) (made : PagePerformed b text number after left) where
  told : number ≡ page_cause b largest_row
  told = ap (λ (o : PageOutcome). o.number) made ∙ cause-by-length b text largest_row (size ∙ sym largest_size)

  -- Of a refused page nothing is printed.
  pub refused-printed : (number ≡ 0 → ⊥) → printing number [] ≡ printed_of b
  unfolding printed_of
  refused-printed some =
      ap (λ (n : ℕ). printing n []) told
      ∙ ap (printing (page_cause b largest_row)) (sym (passed_over (eqb (page_cause b largest_row) 0) _ _ (ne_eqb _ 0 (λ z. some (told ∙ z)))))

  -- Of a taken one its bytes are, which are the page.
  pub taken-printed : (bytes : ℕ) → number ≡ 0 → bytes ≡ page_bytes (shape_of b.state) →
      ((l : ℕ) → l ≤ 511 → length (page_text b.cache (cells (shaped l))) ≡ page_bytes (shaped l)) →
      (printing number (take bytes left) ≡ printed_of b) × (bytes ≤ 69564)
  unfolding printed_of page_left
  taken-printed bytes none e sizes =
      let page = page_text b.cache (cells (shape_of b.state)) in
      let zero : page_cause b text ≡ 0 = sym (ap (λ (o : PageOutcome). o.number) made) ∙ none in
      let few : b.state.lines ≤ 511 = taken-lines b text zero in
      let length-page : length page ≡ page_bytes (shape_of b.state) = sizes b.state.lines few in
      let holds = ap (λ (o : PageOutcome). o.text) made ∙ chosen (eqb (page_cause b text) 0) _ _ (eq-eqb _ 0 zero) in
      let printed : take bytes left ≡ page = put_front {row = text} {text = page} {at = 0} {end = bytes} (record { ends = omega (arith, length-page); holds = holds }) (omega (arith, length-page)) in (
        ap (printing number) printed
            ∙ ap (λ (n : ℕ). printing n page) told
            ∙ ap (printing (page_cause b largest_row)) (sym (chosen (eqb (page_cause b largest_row) 0) _ _ (eq-eqb _ 0 (sym told ∙ none)))),
        omega arith,
      )

-- The first of four causes is the last one only where that stands and the second does not.
not_last : (a b c d : Bool) → (b ≡ false → d ≡ false) → ◌≡◌ {A = ℕ} (cond a 2 (cond b 3 (cond c 4 (cond d 12 0)))) 12 → ⊥
not_last true b c d off e = omega arith
not_last false true c d off e = omega arith
not_last false false true d off e = omega arith
not_last false false false true off e = clash refl (off refl)
not_last false false false false off e = omega arith

-- The row that is lent is never too short.
pub never-short : NeverShort
unfolding page_cause page_causes first_standing
never-short b e =
    let enough : bad_record b.state ≡ false → ltb (length largest_row) (page_bytes (shape_of b.state)) ≡ false =
    λ fine. le-ltb (length largest_row) (page_bytes (shape_of b.state)) (omega (arith, largest_size, lines-fine b fine)) in
    not_last (not_running b) (bad_record b.state) (bad_rows b.state.lines b) _ enough e
