-- What a line does, from what its call or its cut left of the rows.
use Prim.Native.Nat.{ℕ, ◌≤◌}
use mathlib.Core.Path.{◌≡◌, refl, sym, ap, ◌∙◌}
use mathlib.Core.List.{List, ◌++◌}
use lib.ListN.{length, take, drop, replicate}
use lib.Seq.{length-take-le}
use Rattle.std.specs.Prelude.{Result, Ok, Err}
use Rattle.std.specs.Result.{result_unwrap_or}
use Rattle.causes.specs.declared.refusals.Refusal.{Refusal}
use Rattle.engine.specs.Answers.{value_left}
use Rattle.board.specs.declared.State.{State}
use Rattle.board.specs.Next.{lent}
use Rattle.script.specs.declared.Line.{Line}
use Rattle.script.specs.declared.Shown.{Shown}
use Rattle.script.specs.declared.Shown.TheVariants.{Number}
use Rattle.session.specs.declared.desk.Session.{Session}
use Rattle.session.specs.declared.Answered.{Answered}
use Rattle.session.specs.Session.{Desk, desk}
use Rattle.session.specs.Lines.{Done, done, carried_out}
use Rattle.session.proofs.Parts.{part-back, take-replicate}

module _ (i j : ℕ) (m c m' c' : List ℕ) (im : i ≤ length m) (jc : j ≤ length c) (hm : length m' ≡ length (take i m)) (hc : length c' ≡ length (take j c)) where
  -- The board once the parts of its rows are back.
  pub board-back : (state : State) → lent state (take i (m' ++ drop i m)) (take j (c' ++ drop j c)) ≡ lent state m' c'
  board-back state =
      ap (λ (x : List ℕ). lent state x (take j (c' ++ drop j c))) (part-back i m m' im hm) ∙ ap (lent state m') (part-back j c c' jc hc)

-- The board and the text of a session whose arrays hold these.
abbrev pub desk_in : Session → List ℕ → List ℕ → List ℕ → Desk
desk_in s memory cache text = desk (lent s.state (take s.memory memory) (take s.cache cache)) (take s.text text)

-- What the code leaves and shows, by its parts.
pub by_parts : {r : Answered} {s : Session} {answer value : Shown} (memory cache text : List ℕ) →
    (r.session ≡ s) × (r.answer ≡ answer) × (r.value ≡ value) →
    done (desk_in r.session memory cache text) r.answer r.value ≡ done (desk_in s memory cache text) answer value
by_parts {r} {s} {answer} {value} memory cache text w =
    ap (λ (x : Session). done (desk_in x memory cache text) r.answer r.value) w.0
    ∙ ap (λ (x : Shown). done (desk_in s memory cache text) x r.value) w.1
    ∙ ap (done (desk_in s memory cache text) answer) w.2

-- What is left and shown, by its parts.
pub shown_as : {from to : Desk} {answer : Shown} {number shown value : ℕ} → from ≡ to → answer ≡ Number number → shown ≡ value →
    done from answer (Number shown) ≡ done to (Number number) (Number value)
shown_as {from} {to} {answer} {number} {shown} {value} e told same =
    ap (λ (d : Desk). done d answer (Number shown)) e
    ∙ ap (λ (x : Shown). done to x (Number shown)) told
    ∙ ap (λ (n : ℕ). done to (Number number) (Number n)) same

-- The value of an outcome, 0 of a refused call.
pub unwrapped : (r : Result ℕ Refusal) → result_unwrap_or r 0 ≡ value_left r
unwrapped (Ok value) = refl
unwrapped (Err refusal) = refl

-- The desk of a session whose record alone is another.
pub with_state_lem : (s r : Session) {state : State} (memory cache text : List ℕ) →
    r.state ≡ state → (r.memory ≡ s.memory) × (r.cache ≡ s.cache) × (r.text ≡ s.text) →
    desk_in r memory cache text ≡ desk (lent state (take s.memory memory) (take s.cache cache)) (take s.text text)
with_state_lem s r {state} memory cache text e w =
    let in_memory = w.0 in
    let in_cache = w.1 in
    let in_text = w.2 in cc

-- A cut: the whole cache zeroed zeroes the words in use.
pub cut_off_lem : (s : Session) (c c' : List ℕ) → s.cache ≤ length c → c' ≡ replicate (length c) 0 →
    take s.cache c' ≡ replicate (length (take s.cache c)) 0
cut_off_lem s c c' fits z =
    ap (take s.cache) z ∙ take-replicate s.cache (length c) 0 fits
    ∙ ap (λ (k : ℕ). replicate k 0) (sym (length-take-le s.cache c fits))

-- A line whose kind is told does what that kind does.
pub acted : {asked : Line} (k : Line) (d : Desk) (x : Done) → asked ≡ k → x ≡ carried_out k d → x ≡ carried_out asked d
acted k d x told did = did ∙ ap (λ (l : Line). carried_out l d) (sym told)
