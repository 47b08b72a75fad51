-- The causes' numbers and words, and what a call answers: "A taken call returns 0", a refused one the number of its cause.
use Rattle.std.specs.Prelude.{ℕ, Result, Ok, Err, List, codes}
use Rattle.causes.specs.declared.refusals.Refusal.{Refusal}

-- The number of each cause.
abbrev pub number_of : Refusal → ℕ
number_of Refusal.Limits = 1
number_of Refusal.Phase = 2
number_of Refusal.State = 3
number_of Refusal.Rows = 4
number_of Refusal.Header = 5
number_of Refusal.Mark = 14
number_of Refusal.Worker = 6
number_of Refusal.Address = 7
number_of Refusal.Lock = 15
number_of Refusal.Condition = 8
number_of Refusal.Begun = 13
number_of Refusal.Holder = 16
number_of Refusal.Conflict = 9
number_of Refusal.Checkpoint = 10
number_of Refusal.Epoch = 11
number_of Refusal.File = 19
number_of Refusal.Length = 20
number_of Refusal.Text = 12

-- "A taken call returns 0": what an outcome answers.
abbrev pub answer_number : {A : Type 0} → Result A Refusal → ℕ
answer_number (Ok x) = 0
answer_number (Err refusal) = number_of refusal

-- What a person is told of a refused call.
abbrev pub words_of : Refusal → List ℕ
words_of Refusal.Limits = codes "cause 1: L or W outside the limits"
words_of Refusal.Phase = codes "cause 2: phase doesn't allow the call"
words_of Refusal.State = codes "cause 3: state record"
words_of Refusal.Rows = codes "cause 4: rows"
words_of Refusal.Header = codes "cause 5: header"
words_of Refusal.Mark = codes "cause 14: a mark greater than the epoch"
words_of Refusal.Worker = codes "cause 6: no such worker"
words_of Refusal.Address = codes "cause 7: no such cell or line"
words_of Refusal.Lock = codes "cause 15: no such lock"
words_of Refusal.Condition = codes "cause 8: the worker's condition"
words_of Refusal.Begun = codes "cause 13: coming back in the middle of a checkpoint"
words_of Refusal.Holder = codes "cause 16: lock not held or not free"
words_of Refusal.Conflict = codes "cause 9: another worker updates the cell"
words_of Refusal.Checkpoint = codes "cause 10: request or waiting"
words_of Refusal.Epoch = codes "cause 11: the last epoch"
words_of Refusal.File = codes "cause 19: text that isn't such a file"
words_of Refusal.Length = codes "cause 20: length"
words_of Refusal.Text = codes "cause 12: text row too short"
