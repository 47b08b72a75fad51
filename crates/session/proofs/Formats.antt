-- A format to its end, and what turns one down.
use Prim.Native.Nat.{ℕ, zero, suc, ◌+◌, ◌-◌, ◌≤◌, ◌<◌}
use mathlib.Core.Path.{◌≡◌, refl, sym, ap, ◌∙◌}
use mathlib.Core.List.{List}
use mathlib.Core.Bool.{true, false}
use native.Mathlib.Omega.{arith}
use lib.ListN.{take, replicate, length-replicate}
use Rattle.std.specs.Prelude.{Result, Ok, Err}
use Rattle.causes.specs.declared.refusals.Refusal.{Refusal}
use Rattle.causes.specs.Refusals.{number_of, answer_number}
use Rattle.engine.specs.declared.Reading.{Reading}
use Rattle.engine.specs.Answers.{value_left, reading_state, reading_value}
use Rattle.board.specs.declared.State.{State}
use Rattle.board.specs.declared.Call.{Call}
use Rattle.board.specs.declared.Call.TheVariants.{FormatStart, Step}
use Rattle.board.specs.Board.{Board, shaped, row_words, outside}
use Rattle.board.specs.Causes.{causes, cause, first_standing}
use Rattle.board.specs.Next.{lent, next, Taken, Outcome, outcome}
use Rattle.board.specs.Statements.{steps_from}
use Rattle.board.proofs.Invariant.{Lengths}
use Rattle.predicate.proofs.Bools.{chosen, passed_over}
use Rattle.board.proofs.Laws.Taken.{Clear, take as taken-if, limits-in, rows-fine}
use Rattle.script.specs.declared.Line.TheVariants as line
use Rattle.script.specs.declared.Shown.TheVariants.{Nothing, Number}
use Rattle.session.specs.declared.desk.Session.{Session}
use Rattle.session.specs.Session.{Desk, desk}
use Rattle.session.specs.Lines.{given, repeated, done, rows_for, formatted, carried_out}
use Rattle.session.proofs.Acts.{desk_in}

-- One call more is made, from the outcome that those before it gave.
pub one-call : (n i : ℕ) (call : Call) (o after : Outcome) → i < n → after ≡ outcome call o.board → repeated (n - (i + 1)) call after ≡ repeated (n - i) call o
unfolding repeated
one-call n i call o after h e =
    let more : n - i ≡ suc (n - (i + 1)) = omega arith in
    ap (repeated (n - (i + 1)) call) e ∙ ap (λ (k : ℕ). repeated k call o) (sym more)

module _ (state : State) (m c : List ℕ) {made : Result Reading Refusal} {after : State} {last : Result ℕ Refusal} where
  -- A call that is taken, kept as the last one.
  pub kept_ok : (reading : Reading) → made ≡ Ok reading → after ≡ reading.state → last ≡ Ok reading.value →
      given (answer_number last) (value_left last) (lent after m c) ≡ given (answer_number made) (reading_value made) (lent (reading_state state made) m c)
  kept_ok reading told now value =
      ap (λ (r : Result ℕ Refusal). given (answer_number r) (value_left r) (lent after m c)) value
      ∙ ap (λ (s : State). given 0 reading.value (lent s m c)) now
      ∙ sym (ap (λ (r : Result Reading Refusal). given (answer_number r) (reading_value r) (lent (reading_state state r) m c)) told)

  -- A call that is refused.
  pub kept_err : (refusal : Refusal) → made ≡ Err refusal → after ≡ state → last ≡ Err refusal →
      given (answer_number last) (value_left last) (lent after m c) ≡ given (answer_number made) (reading_value made) (lent (reading_state state made) m c)
  kept_err refusal told now value =
      ap (λ (r : Result ℕ Refusal). given (answer_number r) (value_left r) (lent after m c)) value
      ∙ ap (λ (s : State). given (number_of refusal) 0 (lent s m c)) now
      ∙ sym (ap (λ (r : Result Reading Refusal). given (answer_number r) (reading_value r) (lent (reading_state state r) m c)) told)

-- No call to make.
pub no_call : (n : ℕ) (call : Call) (o : Outcome) → n ≡ 0 → repeated n call o ≡ o
unfolding repeated
no_call n call o e = ap (λ (k : ℕ). repeated k call o) e

-- Steps one after the other.
pub repeated-steps : (n : ℕ) (o : Outcome) → (repeated n Step o).board ≡ steps_from n o.board
unfolding repeated steps_from
repeated-steps zero o = refl
repeated-steps (suc n) o = repeated-steps n (outcome Step o.board)

-- Limits that hold bound L.
pub lines-within : (l w : ℕ) → outside (shaped l) w ≡ false → l ≤ 511
lines-within l w o = (limits-in (shaped l) w o).lines

-- The answer 1 of a format whose limits fail is its start's own.
pub refused-by-limits : (l w : ℕ) (b : Board) → outside (shaped l) w ≡ true → cause (FormatStart l w) b ≡ 1
unfolding cause causes first_standing
refused-by-limits l w b t = chosen (outside (shaped l) w) 1 _ t

-- The answer 0 of a format whose limits hold is its start's own.
pub taken-within-limits : (l w : ℕ) (state : State) → outside (shaped l) w ≡ false → Taken (FormatStart l w) (rows_for l state)
unfolding Clear causes
taken-within-limits l w state o =
    let zeros : List ℕ = replicate (row_words l) 0 in
    let lengths : Lengths (shaped l) zeros zeros = record {
      limits = (limits-in (shaped l) w o).shape;
      memory = record { size = length-replicate (row_words l) 0 };
      cache = record { size = length-replicate (row_words l) 0 };
    } in
    taken-if (FormatStart l w) (rows_for l state) (o, (rows-fine (shaped l) (rows_for l state) lengths, tt))

-- "A refused F changes nothing."
pub format-down : (l w : ℕ) (d : Desk) → outside (shaped l) w ≡ true → done d (Number 1) Nothing ≡ carried_out (line.Format l w) d
format-down l w d o = sym (chosen (outside (shaped l) w) _ _ o)

-- A taken format leaves its last step's board, and rows of its size.
pub format-up : (l w i : ℕ) (state : State) (started last : Session) (text : ℕ) (d : Desk) (m0 c0 m1 c1 m2 c2 t : List ℕ)
    {n v n' v' : ℕ} {begun ended : State} →
    i ≡ row_words l → outside (shaped l) w ≡ false → d.board.state ≡ state → d.text ≡ take text t →
    take i m0 ≡ replicate i 0 → take i c0 ≡ replicate i 0 →
    given n v (lent begun (take i m1) (take i c1)) ≡ repeated 1 (FormatStart l w) (given 0 0 (lent state (take i m0) (take i c0))) →
    started.state ≡ begun → (started.memory ≡ i) × (started.cache ≡ i) × (started.text ≡ text) →
    given n' v' (lent ended (take started.memory m2) (take started.cache c2)) ≡ repeated (l + 2) Step (given 0 0 (lent started.state (take started.memory m1) (take started.cache c1))) →
    last.state ≡ ended → (last.memory ≡ started.memory) × (last.cache ≡ started.cache) × (last.text ≡ started.text) →
    done (desk_in last m2 c2 t) (Number 0) Nothing ≡ carried_out (line.Format l w) d
unfolding repeated
format-up l w i state started last text d m0 c0 m1 c1 m2 c2 t {begun = begun} {ended = ended} words o same beside zm zc first sb sw steps lb lw =
    let zeros : lent state (take i m0) (take i c0) ≡ rows_for l d.board.state = cc in
    let s1 = sw.0 in
    let s2 = sw.1 in
    let s3 = sw.2 in
    let l1 = lw.0 in
    let l2 = lw.1 in
    let l3 = lw.2 in
    let start : lent begun (take i m1) (take i c1) ≡ next (FormatStart l w) (rows_for l d.board.state) = ap (λ (x : Outcome). x.board) first ∙ ap (next (FormatStart l w)) zeros in
    let goes_on : lent started.state (take started.memory m1) (take started.cache c1) ≡ lent begun (take i m1) (take i c1) = cc in
    let all : lent ended (take started.memory m2) (take started.cache c2) ≡ formatted l w (rows_for l d.board.state) =
    ap (λ (x : Outcome). x.board) steps ∙ repeated-steps (l + 2) (given 0 0 (lent started.state (take started.memory m1) (take started.cache c1)))
    ∙ ap (steps_from (l + 2)) (goes_on ∙ start) in
    let left : desk_in last m2 c2 t ≡ desk (lent ended (take started.memory m2) (take started.cache c2)) d.text = cc in
    ap (λ (x : Desk). done x (Number 0) Nothing) (left ∙ ap (λ (b : Board). desk b d.text) all)
    ∙ sym (passed_over (outside (shaped l) w) _ _ o)
