-- What each damaging line leaves and shows, from what its parts did.
use Rattle.std.proofs.Common.{◌≡◌, ℕ, ◌<◌, ◌≤◌, Bool, true, false, cond, leb, List, ◌++◌, length, take, Option, Some, None, refl, sym, ap, ◌∙◌, length-set}
use mathlib.Core.Logic.{◌⊎◌, inl, inr}
use borrow.Author.Tests.{lt-leb}
use Rattle.std.specs.Option.{MatchOption, is_some, unwrap_or, option_and}
use Rattle.std.proofs.lemmas.List.{take_at}
use Rattle.predicate.proofs.Bools.{chosen, passed_over, and-off, and-off-right}
use Rattle.board.specs.declared.State.{State}
use Rattle.board.specs.Board.{Board}
use Rattle.board.specs.Next.{lent}
use Rattle.script.specs.declared.Damage.{Damage}
use Rattle.script.specs.declared.Damage.TheVariants.{Lengths, Memory, Cache, Dirty, Field, Worker, Holder, Checksum}
use Rattle.script.specs.declared.Shown.{Shown}
use Rattle.script.specs.declared.Shown.TheVariants.{Nothing, Number}
use Rattle.damage.specs.declared.Sizes.{Sizes}
use Rattle.damage.specs.declared.Damaged.{Damaged}
use Rattle.damage.specs.Record.{field_fits, field_put, word_there, word_put, worker_fits, worker_put, holder_fits, holder_put}
use Rattle.damage.specs.Rows.{resized, word_fits, stored_if, Stored}
use Rattle.damage.specs.Checksum.{checksum}
use Rattle.damage.specs.Damages.{DamageOutcome, showing, answer_if, room_for, relengthened, outcome, in_use, left}

-- What the code leaves and shows, by its parts.
pub by_parts : {r : Damaged} {state : State} {sizes : Sizes} {answer value : Shown} (m c : List ℕ) →
    (r.state ≡ state) × (r.sizes ≡ sizes) × (r.answer ≡ answer) × (r.value ≡ value) → left r m c ≡ showing (in_use state sizes m c) answer value
by_parts {r} {state} {sizes} {answer} {value} m c w =
    ap (λ (x : State). showing (in_use x r.sizes m c) r.answer r.value) w.0
    ∙ ap (λ (x : Sizes). showing (in_use state x m c) r.answer r.value) w.1
    ∙ ap (λ (x : Shown). showing (in_use state sizes m c) x r.value) w.2
    ∙ ap (showing (in_use state sizes m c) answer) w.3

-- A line whose kind is told leaves what that kind leaves.
pub told-as : {d : Damage} {x : DamageOutcome} (b : Board) (k : Damage) → d ≡ k → x ≡ outcome k b → x ≡ outcome d b
told-as b k told did = did ∙ ap (λ (y : Damage). outcome y b) (sym told)

-- The record put anew, if it can be.
pub option-put : (o : Option State) (fits : Bool) (given old : State) → MatchOption o (fits ≡ false) (λ s. (fits ≡ true) × (s ≡ given)) →
    (is_some o ≡ fits) × (unwrap_or o old ≡ cond fits given old)
option-put None fits given old e = (sym e, sym (passed_over fits given old e))
option-put (Some s) fits given old e = (sym e.0, e.1 ∙ sym (chosen fits given old e.0))

-- The record stays, and it is told whether a word was put.
pub and-put : (o : Option (Unit {0})) {r : Option State} {s : State} → r ≡ option_and o (Some s) → (unwrap_or r s ≡ s) × (is_some r ≡ is_some o)
and-put None {r} {s} e = (ap (λ (x : Option State). unwrap_or x s) e, ap is_some e)
and-put (Some u) {r} {s} e = (ap (λ (x : Option State). unwrap_or x s) e, ap is_some e)

-- A row keeps its length.
length-stored : (fits : Bool) (row : List ℕ) (i v : ℕ) → length (stored_if fits row i v) ≡ length row
length-stored true row i v = length-set row i v
length-stored false row i v = refl

-- What was put into the first words of an array.
pub stored-front : {fits : Bool} {row after : List ℕ} {i v : ℕ} {put : Bool} (n : ℕ) (rest : List ℕ) → length row ≡ n → Stored fits row i v put after →
    Stored fits row i v put (take n (after ++ rest))
stored-front {fits} {row} {after} {i} {v} n rest e w =
    record { told = w.told; leaves = take_at after rest n (ap length w.leaves ∙ length-stored fits row i v ∙ e) ∙ w.leaves }

-- Lengths past the room.
pub room-off : (m c : ℕ) → (4104 < m) ⊎ ((m ≤ 4104) × (4104 < c)) → room_for m c ≡ false
room-off m c (inl h) = and-off (leb m 4104) (leb c 4104) (lt-leb m 4104 h)
room-off m c (inr h) = and-off-right (leb m 4104) (leb c 4104) (lt-leb c 4104 h.1)

module _ (state : State) (s : Sizes) (m c : List ℕ) where
  pub lengths-put : (x y : ℕ) (m' c' : List ℕ) → room_for x y ≡ true → take x m' ≡ resized (take s.memory m) x →
      take y c' ≡ resized (take s.cache c) y →
      showing (lent state (take x m') (take y c')) (Number 0) Nothing ≡ outcome (Lengths x y) (in_use state s m c)
  unfolding outcome
  lengths-put x y m' c' room hm hc =
      let b = in_use state s m c in
      ap (λ (l : List ℕ). showing (lent state l (take y c')) (Number 0) Nothing) hm
      ∙ ap (λ (l : List ℕ). showing (lent state (resized (take s.memory m) x) l) (Number 0) Nothing) hc
      ∙ sym (ap (λ (t : Bool). showing (cond t (relengthened b x y) b) (answer_if t) Nothing) room)

  pub lengths-off : (x y : ℕ) → room_for x y ≡ false → showing (in_use state s m c) (answer_if false) Nothing ≡ outcome (Lengths x y) (in_use state s m c)
  unfolding outcome
  lengths-off x y room =
      let b = in_use state s m c in sym (ap (λ (t : Bool). showing (cond t (relengthened b x y) b) (answer_if t) Nothing) room)

  pub memory-put : (i v : ℕ) (put : Bool) (m' : List ℕ) →
      Stored (word_fits (take s.memory m) i) (take s.memory m) i v put (take s.memory m') →
      showing (in_use state s m' c) (answer_if put) Nothing ≡ outcome (Memory i v) (in_use state s m c)
  unfolding outcome
  memory-put i v put m' w =
      ap (λ (l : List ℕ). showing (lent state l (take s.cache c)) (answer_if put) Nothing) w.leaves
      ∙ ap (λ (t : Bool). showing (lent state (stored_if (word_fits (take s.memory m) i) (take s.memory m) i v) (take s.cache c)) (answer_if t) Nothing) w.told

  pub cache-put : (i v : ℕ) (put : Bool) (c' : List ℕ) → Stored (word_fits (take s.cache c) i) (take s.cache c) i v put (take s.cache c') →
      showing (in_use state s m c') (answer_if put) Nothing ≡ outcome (Cache i v) (in_use state s m c)
  unfolding outcome
  cache-put i v put c' w =
      ap (λ (l : List ℕ). showing (lent state (take s.memory m) l) (answer_if put) Nothing) w.leaves
      ∙ ap (λ (t : Bool). showing (lent state (take s.memory m) (stored_if (word_fits (take s.cache c) i) (take s.cache c) i v)) (answer_if t) Nothing) w.told

  -- The record put anew, if it can be.
  put-anew : (fits put : Bool) (given after : State) → (put ≡ fits) × (after ≡ given) →
      showing (in_use after s m c) (answer_if put) Nothing ≡ showing (in_use given s m c) (answer_if fits) Nothing
  put-anew fits put given after w =
      ap (λ (t : Bool). showing (in_use after s m c) (answer_if t) Nothing) w.0 ∙ ap (λ (x : State). showing (in_use x s m c) (answer_if fits) Nothing) w.1

  pub word-put : (i v : ℕ) (put : Bool) (after : State) → (put ≡ word_there i) × (after ≡ word_put state i v) →
      showing (in_use after s m c) (answer_if put) Nothing ≡ outcome (Dirty i v) (in_use state s m c)
  unfolding outcome
  word-put i v put after w = put-anew (word_there i) put (word_put state i v) after w

  pub field_put_lem : (k v : ℕ) (put : Bool) (after : State) → (put ≡ field_fits k v) × (after ≡ field_put state k v) →
      showing (in_use after s m c) (answer_if put) Nothing ≡ outcome (Field k v) (in_use state s m c)
  unfolding outcome
  field_put_lem k v put after w = put-anew (field_fits k v) put (field_put state k v) after w

  pub worker-put : (w' k n a v : ℕ) (put : Bool) (after : State) → (put ≡ worker_fits w' k n a v) × (after ≡ worker_put state w' k n a v) →
      showing (in_use after s m c) (answer_if put) Nothing ≡ outcome (Worker w' k n a v) (in_use state s m c)
  unfolding outcome
  worker-put w' k n a v put after w = put-anew (worker_fits w' k n a v) put (worker_put state w' k n a v) after w

  pub holder-put : (k h : ℕ) (put : Bool) (after : State) → (put ≡ holder_fits k h) × (after ≡ holder_put state k h) →
      showing (in_use after s m c) (answer_if put) Nothing ≡ outcome (Holder k h) (in_use state s m c)
  unfolding outcome
  holder-put k h put after w = put-anew (holder_fits k h) put (holder_put state k h) after w

  pub sum-shown : (sum : ℕ) → sum ≡ checksum (in_use state s m c) → showing (in_use state s m c) (Number 0) (Number sum) ≡ outcome Checksum (in_use state s m c)
  unfolding outcome
  sum-shown sum same = ap (λ (n : ℕ). showing (in_use state s m c) (Number 0) (Number n)) same
