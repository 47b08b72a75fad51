-- What is shown of a HEX text, from what reading it, its recovery and its page left.
use Rattle.std.proofs.Common.{◌≡◌, ℕ, ◌*◌, ◌%◌, ◌≤◌, ◌&&◌, eqb, leb, List, [], ◌++◌, length, take, drop, replicate, sym, refl, ap, ◌∙◌, subst, arith, eq-eqb, ne_eqb, leb-true}
use lib.ListN.{length-replicate}
use Rattle.board.specs.declared.State.{State}
use Rattle.board.specs.declared.Phase.TheVariants.{Off}
use Rattle.board.specs.declared.Call.TheVariants.{RecoveryStart}
use Rattle.board.specs.Board.{Board, shaped}
use Rattle.board.specs.State.{started}
use Rattle.board.specs.Causes.{bad_length, causes, cause}
use Rattle.board.specs.Next.{lent, next, Outcome, outcome, Performed}
use Rattle.board.specs.Statements.{steps_from}
use Rattle.board.specs.Hex.{hex_read_cause, HexRead, HexReadPerformed}
use Rattle.board.proofs.Laws.Taken.{numbered, Clear, first-clear}
use Rattle.predicate.proofs.Bools.{chosen, passed_over, and_left, and_right, not-off, or_left}
use Rattle.text.specs.Writing.{Put}
use Rattle.text.proofs.Writing.{put_front}
use Rattle.session.proofs.Parts.{part-back, take-replicate}
use Rattle.console.specs.Printing.{Printed, printing, printed_of}
use Rattle.console.specs.Display.{words_for, row_for, unrecovered, recovered, header_line, board_shown, memory_shown, text_shown}
use Rattle.console.proofs.Recovered.{all-steps, start-lines}

-- ---- recovery

module _ (memory cache cache_begun : List ℕ) (off begun : State) (number value : ℕ) (is-off : off ≡ started Off (shaped 0) 0)
    (zeros : cache ≡ replicate (length memory) 0) (start : Performed RecoveryStart (lent off memory cache) number value (lent begun memory cache_begun)) where
  same : lent off memory cache ≡ unrecovered memory
  same = ap (λ (s : State). lent s memory cache) is-off ∙ ap (lent (started Off (shaped 0) 0) memory) zeros

  -- The start's number.
  pub start-told : number ≡ cause RecoveryStart (unrecovered memory)
  start-told = ap (λ (o : Outcome). o.number) (start ∙ ap (outcome RecoveryStart) same)

  begins : lent begun memory cache_begun ≡ next RecoveryStart (unrecovered memory)
  begins = ap (λ (o : Outcome). o.board) (start ∙ ap (outcome RecoveryStart) same)

  -- Six steps a line after it are the recovery to its end.
  pub steps-recover : {state : State} {memory_left cache_left : List ℕ} (times : ℕ) → number ≡ 0 → times ≡ 6 * begun.lines →
      lent state memory_left cache_left ≡ steps_from times (lent begun memory cache_begun) → lent state memory_left cache_left ≡ recovered (unrecovered memory)
  steps-recover times none e did =
      let taken = sym start-told ∙ none in
      let lines = ap (λ (b : Board). b.state.lines) begins ∙ start-lines (unrecovered memory) taken in
      did ∙ ap (steps_from times) begins ∙ all-steps (unrecovered memory) times taken (omega (arith, lines))

-- A memory that the start takes has 16 words or more.
pub start-length : (memory : List ℕ) → cause RecoveryStart (unrecovered memory) ≡ 0 → 16 ≤ length memory
unfolding cause causes numbered Clear
start-length memory e =
    let n = length memory in
    let fine : bad_length n ≡ _ = or_left (bad_length n) _ (first-clear (causes RecoveryStart (unrecovered memory)) refl e).0 in
    leb-true 16 n (and_right (eqb (n % 8) 0) (leb 16 n) (and_left (eqb (n % 8) 0 && leb 16 n) (leb n 4096) (not-off _ fine)))

-- ---- a memory

-- Nothing is shown of one that the start turns down.
pub memory-down : (memory : List ℕ) (number : ℕ) → number ≡ cause RecoveryStart (unrecovered memory) → (number ≡ 0 → ⊥) → printing number [] ≡ memory_shown memory
unfolding memory_shown
memory-down memory number told some =
    ap (λ (n : ℕ). printing n []) told
    ∙ sym (passed_over (eqb (cause RecoveryStart (unrecovered memory)) 0) _ _ (ne_eqb _ 0 (λ z. some (told ∙ z))))

-- Of one that it takes the recovered board is.
pub memory-up : (memory : List ℕ) (number : ℕ) → number ≡ cause RecoveryStart (unrecovered memory) → number ≡ 0 →
    board_shown (recovered (unrecovered memory)) ≡ memory_shown memory
unfolding memory_shown
memory-up memory number told none =
    sym (chosen (eqb (cause RecoveryStart (unrecovered memory)) 0) _ _ (eq-eqb _ 0 (sym told ∙ none)))

module _ (b : Board) (number : ℕ) (text : List ℕ) (printed : printing number text ≡ printed_of b) where
  told : number ≡ (printed_of b).number
  told = ap (λ (p : Printed). p.number) printed

  -- Nothing is shown of a board whose page is refused.
  pub page-down : (number ≡ 0 → ⊥) → printing number [] ≡ board_shown b
  unfolding board_shown
  page-down some =
      ap (λ (n : ℕ). printing n []) told
      ∙ ap (printing (printed_of b).number) (sym (passed_over (eqb (printed_of b).number 0) _ _ (ne_eqb _ 0 (λ z. some (told ∙ z)))))

  -- Its header's line and its page are.
  pub page-up : (line : List ℕ) → number ≡ 0 → line ≡ header_line b.memory → printing 0 (line ++ text) ≡ board_shown b
  unfolding board_shown
  page-up line none e =
      ap (λ (n : ℕ). printing n (line ++ text)) (sym none ∙ told)
      ∙ ap (λ (l : List ℕ). printing (printed_of b).number (l ++ text)) e
      ∙ ap (λ (p : Printed). printing (printed_of b).number (header_line b.memory ++ p.text)) printed
      ∙ ap (printing (printed_of b).number) (sym (chosen (eqb (printed_of b).number 0) _ _ (eq-eqb _ 0 (sym told ∙ none))))

-- The header's line, written at the front of its row.
pub line-front : {row line after : List ℕ} {end : ℕ} → Put row 0 line after end → end ≤ 75 → length row ≡ 75 → take end after ≡ line
line-front puts few size = put_front puts (omega (arith, puts.ends))

-- ---- a text

-- A row of zeros has its length.
pub zeros-length : (row : List ℕ) → row ≡ replicate 4096 0 → length row ≡ 4096
zeros-length row e = ap length e ∙ length-replicate {A = ℕ} 4096 0

-- The first words of one are zeros.
pub zeros-part : (n : ℕ) (row : List ℕ) → row ≡ replicate 4096 0 → n ≤ 4096 → take n row ≡ replicate n 0
zeros-part n row e h = ap (take n) e ∙ take-replicate n 4096 0 h

module _ (text memory left : List ℕ) (words number : ℕ) (zeros : memory ≡ replicate 4096 0) (few : words ≤ 4096) (held : words ≡ words_for text)
    (read : HexReadPerformed text (take words memory) number left) where
  row_same : take words memory ≡ row_for text
  row_same = zeros-part words memory zeros few ∙ ap (λ (n : ℕ). replicate n 0) held

  by_row : HexReadPerformed text (row_for text) number left
  by_row = subst (λ (row : List ℕ). HexReadPerformed text row number left) row_same read

  read_told : number ≡ hex_read_cause text (row_for text)
  read_told = ap (λ (o : HexRead). o.number) by_row

  -- Nothing is shown of a text that is not read.
  pub text-down : (number ≡ 0 → ⊥) → printing number [] ≡ text_shown text
  unfolding text_shown
  text-down some =
      ap (λ (n : ℕ). printing n []) read_told
      ∙ sym (passed_over (eqb (hex_read_cause text (row_for text)) 0) _ _ (ne_eqb _ 0 (λ z. some (read_told ∙ z))))

  -- Of one that is read the memory is, once its words are back.
  pub text-up : length left ≡ length (take words memory) → number ≡ 0 → memory_shown (take words (left ++ drop words memory)) ≡ text_shown text
  unfolding text_shown
  text-up size none =
      ap memory_shown (part-back words memory left (omega (arith, zeros-length memory zeros)) size ∙ ap (λ (o : HexRead). o.row) by_row)
      ∙ sym (chosen (eqb (hex_read_cause text (row_for text)) 0) _ _ (eq-eqb _ 0 (sym read_told ∙ none)))

  -- The cache lent is as long, and zeros.
  pub cache-zeros : (cache : List ℕ) → cache ≡ replicate 4096 0 → length left ≡ length (take words memory) →
      take words cache ≡ replicate (length (take words (left ++ drop words memory))) 0
  cache-zeros cache e size =
      zeros-part words cache e few
      ∙ ap (λ (n : ℕ). replicate n 0) (sym (ap length (part-back words memory left (omega (arith, zeros-length memory zeros)) size) ∙ size ∙ ap length (zeros-part words memory zeros few) ∙ length-replicate {A = ℕ} words 0))
