-- What an outcome that is refused prints, shows and answers.
use Rattle.std.proofs.Common.{◌≡◌, ℕ, List, [], Result, Ok, Err, refl, ap}
use Rattle.std.specs.Result.{IsErrAnd, IfOk, result_unwrap_or}
use Rattle.board.specs.declared.State.{State}
use Rattle.causes.specs.declared.refusals.Refusal.{Refusal}
use Rattle.causes.specs.Refusals.{number_of, answer_number}
use Rattle.engine.specs.Answers.{state_left}
use Rattle.console.specs.declared.display.Displayed.{Displayed}
use Rattle.console.specs.Printing.{printing, printed_by}
use Rattle.console.specs.Display.{shown_by}

-- Nothing is printed of it.
pub none_printed : (r : Result ℕ Refusal) (e : Refusal) (row : List ℕ) → IsErrAnd r (λ x. x ≡ e) → printed_by r row ≡ printing (number_of e) []
none_printed (Ok bytes) e row h = absurd h
none_printed (Err x) e row h = ap (λ (y : Refusal). printing (number_of y) []) h

-- Nothing is shown of it.
pub none_shown : (r : Result Displayed Refusal) (e : Refusal) (heading row : List ℕ) → IsErrAnd r (λ x. x ≡ e) → shown_by r heading row ≡ printing (number_of e) []
none_shown (Ok shown) e heading row h = absurd h
none_shown (Err x) e heading row h = ap (λ (y : Refusal). printing (number_of y) []) h

-- Its number is its refusal's.
pub err_number : {A : Type 0} (r : Result A Refusal) (e : Refusal) → IsErrAnd r (λ x. x ≡ e) → answer_number r ≡ number_of e
err_number (Ok x) e h = absurd h
err_number (Err x) e h = ap (λ (y : Refusal). number_of y) h

-- Nothing is claimed of its value.
pub no_value : {A : Type 0} (r : Result A Refusal) (e : Refusal) (P : A → Type 0) → IsErrAnd r (λ x. x ≡ e) → IfOk r P
no_value (Ok x) e P h = absurd h
no_value (Err x) e P h = tt

-- The record that it leaves is the one given.
pub unwrapped : (r : Result State Refusal) (s : State) → result_unwrap_or r s ≡ state_left s r
unwrapped (Ok x) s = refl
unwrapped (Err x) s = refl
