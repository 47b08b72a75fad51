-- However an input is cut into pieces, what is written is the transcript of the whole input, and the board left and the lines tallied are the whole input's.
use Rattle.std.proofs.Common.{◌≡◌, ℕ, suc, Bool, true, false, cond, eqb, List, [], ◌∷◌, ◌++◌, length, take, sym, refl, ap, ◌∙◌, append_assoc, append-nil, arith, ne_eqb}
use mathlib.Core.List.{flatten}
use Rattle.predicate.proofs.Bools.{passed_over}
use Rattle.board.specs.Board.{Board}
use Rattle.text.specs.Ascii.{feed}
use Rattle.script.specs.Grammar.{joined, meaning}
use Rattle.script.specs.Answers.{header_text}
use Rattle.script.specs.declared.Program.{Program}
use Rattle.script.specs.declared.Program.TheVariants.{Drill, Page, Hex}
use Rattle.script.specs.declared.Line.{Line}
use Rattle.script.proofs.NumberLaws.{meaning-page, meaning-hex}
use Rattle.session.specs.Session.{Desk, first_desk}
use Rattle.session.specs.Lines.{carried_out}
use Rattle.console.specs.declared.progress.Misread.{Misread}
use Rattle.console.specs.Transcript.{lines_of, following, line_text, answers, desk_after, last_board, none_misread, line_tallied, misread_after}
use Rattle.console.specs.Pieces.{Carried, carried, first, Fed, leaving, kept, ended, and_then, fed, finished, fed_all, AnyPieces, AnyPiecesBoard, AnyPiecesMisread}
use Rattle.console.specs.Printing.{printed_of, hex_printed_of, AnyPiecesPrinted, AnyPiecesHexPrinted, BoardOfDrill}
use Rattle.console.proofs.LineEnds.{ended-kept}
use Rattle.console.proofs.Pieces.{take_again, fed-append}

-- ---- the lines of an input that goes on a line begun

-- The bytes of a line begun, put in front of the first line.
unfoldable onto : List ℕ → List (List ℕ) → List (List ℕ)
onto [] ls = ls
onto (b ∷ bs) ls = joined b (onto bs ls)

-- In front of a line.
onto-line : (u l : List ℕ) (ls : List (List ℕ)) → onto u (l ∷ ls) ≡ (u ++ l) ∷ ls
unfolding onto
onto-line [] l ls = refl
onto-line (b ∷ bs) l ls = ap (joined b) (onto-line bs l ls)

-- In front of no line: a line of their own.
onto-none : (b : ℕ) (u : List ℕ) → onto (b ∷ u) [] ≡ (b ∷ u) ∷ []
unfolding onto
onto-none b [] = refl
onto-none b (c ∷ u) = ap (joined b) (onto-none c u)

-- A byte more of them.
onto-more : (u : List ℕ) (b : ℕ) (ls : List (List ℕ)) → onto (u ++ (b ∷ [])) ls ≡ onto u (joined b ls)
unfolding onto
onto-more [] b ls = refl
onto-more (c ∷ u) b ls = ap (joined c) (onto-more u b ls)

-- ---- one piece, and the end after it

-- What a piece and the input's end after it leave and have written.
abbrev closed : Program → Fed → Fed
closed program f = and_then f (finished program f.after)

-- Three inputs one after the other, in either grouping.
then-then : (f g h : Fed) → and_then (and_then f g) h ≡ and_then f (and_then g h)
then-then f g h = ap (leaving h.after) (append_assoc f.text g.text h.text)

-- What whole lines leave and have written, each on what the one before it left.
unfoldable lines_fed : Program → ℕ → Desk → Misread → List (List ℕ) → Fed
lines_fed program n d m [] = leaving (carried d n m []) []
lines_fed program n d m (line ∷ more) =
    and_then (ended program (carried d n m line))
    (lines_fed program (following n) (carried_out (meaning program line) d).desk (line_tallied program n d m line) more)

-- They have the answers written.
lines-text : (program : Program) (n : ℕ) (d : Desk) (m : Misread) (ls : List (List ℕ)) → (lines_fed program n d m ls).text ≡ answers program n d ls
unfolding lines_fed answers
lines-text program n d m [] = refl
lines-text program n d m (line ∷ more) =
    ap (λ (t : List ℕ). line_text program (following n) d line ++ t)
    (lines-text program (following n) (carried_out (meaning program line) d).desk (line_tallied program n d m line) more)

-- They leave the board and the text after them.
lines-desk : (program : Program) (n : ℕ) (d : Desk) (m : Misread) (ls : List (List ℕ)) → (lines_fed program n d m ls).after.desk ≡ desk_after program d ls
unfolding lines_fed desk_after
lines-desk program n d m [] = refl
lines-desk program n d m (line ∷ more) =
    lines-desk program (following n) (carried_out (meaning program line) d).desk (line_tallied program n d m line) more

-- They leave those tallied that are answered `?`.
lines-misread : (program : Program) (n : ℕ) (d : Desk) (m : Misread) (ls : List (List ℕ)) →
    (lines_fed program n d m ls).after.misread ≡ misread_after program n d m ls
unfolding lines_fed misread_after
lines-misread program n d m [] = refl
lines-misread program n d m (line ∷ more) =
    lines-misread program (following n) (carried_out (meaning program line) d).desk (line_tallied program n d m line) more

-- Of a line that has a byte, a byte is kept.
some-kept : (n c : ℕ) (u : List ℕ) → length (take (suc n) (c ∷ u)) ≡ 0 → ⊥
some-kept n c u z = omega arith

-- The line begun, whole, is the last one.
last_line : (program : Program) (d : Desk) (n : ℕ) (m : Misread) (u : List ℕ) → finished program (carried d n m (take 80 u)) ≡ lines_fed program n d m (onto u [])
unfolding lines_fed onto
last_line program d n m [] = refl
last_line program d n m (c ∷ u) =
    let whole = ended program (carried d n m (c ∷ u)) in
    passed_over (eqb (length (take 80 (c ∷ u))) 0) _ _ (ne_eqb (length (take 80 (c ∷ u))) 0 (some-kept 79 c u))
    ∙ ended-kept program d n m (c ∷ u)
    ∙ ap (leaving whole.after) (sym (append-nil whole.text))
    ∙ sym (ap (lines_fed program n d m) (onto-none c u))

-- What is left and written, and then what is to more input.
abbrev onward : Program → List ℕ → Fed → Fed
onward program more f = and_then f (fed program f.after more)

module _ (program : Program) (d : Desk) (n : ℕ) (m : Misread) (u : List ℕ) (c : ℕ) (cs : List ℕ) where
  -- What is claimed of a byte that is a line feed or not, and the input after it.
  abbrev Byte : Bool → Type 0
  Byte t =
      closed program (onward program cs (cond t (ended program (carried d n m (take 80 u))) (leaving (kept (carried d n m (take 80 u)) (c ∷ [])) []))) ≡
      lines_fed program n d m (onto u (cond t ([] ∷ lines_of cs) (joined c (lines_of cs))))

  -- A line feed ends the line begun.
  at-feed : closed program (fed program (ended program (carried d n m u)).after cs) ≡ lines_fed program (following n) (carried_out (meaning program u) d).desk (line_tallied program n d m u) (lines_of cs) →
      Byte true
  unfolding lines_fed
  at-feed again =
      let line = ended program (carried d n m u) in
      let more = fed program line.after cs in
      ap (λ (f : Fed). closed program (onward program cs f)) (ended-kept program d n m u)
      ∙ then-then line more (finished program more.after)
      ∙ ap (and_then line) again
      ∙ sym (ap (lines_fed program n d m) (onto-line u [] (lines_of cs) ∙ ap (λ (l : List ℕ). l ∷ lines_of cs) (append-nil u)))

  -- Any other byte goes on the line begun.
  inside : closed program (fed program (carried d n m (take 80 (u ++ (c ∷ [])))) cs) ≡ lines_fed program n d m (onto (u ++ (c ∷ [])) (lines_of cs)) → Byte false
  inside again =
      ap (λ (l : List ℕ). closed program (fed program (carried d n m l) cs)) (take_again 80 u (c ∷ []))
      ∙ again
      ∙ ap (lines_fed program n d m) (onto-more u c (lines_of cs))

  -- One of the two.
  either : (t : Bool) → Byte true → Byte false → Byte t
  either true feeds goes_on = feeds
  either false feeds goes_on = goes_on

-- A piece and the input's end do what its lines do, the first of which goes on the line begun.
closed-fed : (program : Program) (d : Desk) (n : ℕ) (m : Misread) (u x : List ℕ) →
    closed program (fed program (carried d n m (take 80 u)) x) ≡ lines_fed program n d m (onto u (lines_of x))
unfolding fed lines_of onto
closed-fed program d n m u [] = last_line program d n m u
closed-fed program d n m u (c ∷ cs) =
    either program d n m u c cs (eqb c feed)
    (at-feed program d n m u c cs (closed-fed program (carried_out (meaning program u) d).desk (following n) (line_tallied program n d m u) [] cs))
    (inside program d n m u c cs (closed-fed program d n m (u ++ (c ∷ [])) cs))

-- ---- pieces

-- Pieces leave and have written what the whole does.
all_whole : (program : Program) (p : Carried) (pieces : List (List ℕ)) → fed_all program p pieces ≡ closed program (fed program p (flatten pieces))
unfolding fed_all flatten fed
all_whole program p [] = refl
all_whole program p (x ∷ xs) =
    let before = fed program p x in
    let more = fed program before.after (flatten xs) in
    ap (and_then before) (all_whole program before.after xs)
    ∙ sym (then-then before more (finished program more.after))
    ∙ sym (ap (closed program) (fed-append program p x (flatten xs)))

-- The pieces of an input do what its lines do.
all_lines : (program : Program) (pieces : List (List ℕ)) → fed_all program first pieces ≡ lines_fed program 0 first_desk none_misread (lines_of (flatten pieces))
unfolding onto
all_lines program pieces = all_whole program first pieces ∙ closed-fed program first_desk 0 none_misread [] (flatten pieces)

-- What is written is the transcript, however the input is cut.
pub any-pieces : AnyPieces
any-pieces program pieces =
    ap (λ (f : Fed). header_text ++ f.text) (all_lines program pieces)
    ∙ ap (λ (t : List ℕ). header_text ++ t) (lines-text program 0 first_desk none_misread (lines_of (flatten pieces)))

-- The board left is the whole input's, however it is cut.
pub any-pieces-board : AnyPiecesBoard
any-pieces-board program pieces =
    ap (λ (f : Fed). f.after.desk.board) (all_lines program pieces)
    ∙ ap (λ (d : Desk). d.board) (lines-desk program 0 first_desk none_misread (lines_of (flatten pieces)))

-- The lines tallied are the whole input's, however it is cut.
pub any-pieces-misread : AnyPiecesMisread
any-pieces-misread program pieces =
    ap (λ (f : Fed). f.after.misread) (all_lines program pieces) ∙ lines-misread program 0 first_desk none_misread (lines_of (flatten pieces))

-- ---- the page program and the HEX program

-- What is printed is the page of the board that the whole input leaves.
pub any-pieces-printed : AnyPiecesPrinted
any-pieces-printed pieces = ap printed_of (any-pieces-board Page pieces)

-- What is printed is the HEX text of the memory that the whole input leaves.
pub any-pieces-hex-printed : AnyPiecesHexPrinted
any-pieces-hex-printed pieces = ap (λ (b : Board). hex_printed_of b.memory) (any-pieces-board Hex pieces)

module _ (program : Program) (same : (s : List ℕ) → meaning program s ≡ meaning Drill s) where
  -- Lines that mean what they mean in the drill leave what they leave there.
  after-drill : (d : Desk) (ls : List (List ℕ)) → desk_after program d ls ≡ desk_after Drill d ls
  unfolding desk_after
  after-drill d [] = refl
  after-drill d (line ∷ more) =
      ap (λ (k : Line). desk_after program (carried_out k d).desk more) (same line) ∙ after-drill (carried_out (meaning Drill line) d).desk more

  -- So does a whole input.
  last-drill : (input : List ℕ) → last_board program input ≡ last_board Drill input
  last-drill input = ap (λ (d : Desk). d.board) (after-drill first_desk (lines_of input))

pub board-of-drill : BoardOfDrill
board-of-drill input = (last-drill Page meaning-page input, last-drill Hex meaning-hex input)
