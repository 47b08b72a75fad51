-- `text::number::put_divided` meets its contract. The invariant: what is written is the number's last digits, and those left are the rest.
use Rattle.std.proofs.Common.{◌≡◌, ℕ, ◌+◌, List, ◌++◌, length}
use Rattle.text.specs.Numbers.{number_text}
use Rattle.text.specs.Writing.{put}
use Rattle.text.proofs.number.put_divided.Given as goal

-- What is written so far: the last digits of `whole`, `rest` being those before them.
pub record WrittenDigits (row whole : List ℕ) (end : ℕ) (out : List ℕ) (at : ℕ) (rest : List ℕ) : Type 0 where
  pub digits : List ℕ
  pub ends : at + length digits ≡ end
  pub holds : out ≡ put row at digits
  pub all : whole ≡ rest ++ digits
  pub size : length out ≡ length row

abbrev pub invariant-loop-left : goal.invariant-loop-left
invariant-loop-left l = WrittenDigits l.initial.out (number_text l.n) l.end l.out l.at (number_text l.left)

abbrev pub decreases-loop-left : goal.decreases-loop-left
decreases-loop-left l = l.left
