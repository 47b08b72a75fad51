-- A row of bytes with a text written into it.
use Rattle.std.specs.Prelude.{◌≡◌, ℕ, ◌+◌, ◌-◌, List, ◌++◌, length, take, drop, replicate}
use Rattle.text.specs.Ascii.{blank}

-- The row with `text` written from `at` on.
abbrev pub put : List ℕ → ℕ → List ℕ → List ℕ
put row at text = take at row ++ text ++ drop (at + length text) row

-- `text` was written into `row` from `at` up to `end`, and nothing else.
pub record Put (row : List ℕ) (at : ℕ) (text after : List ℕ) (end : ℕ) : Type 0 where
  pub ends : end ≡ at + length text
  pub holds : after ≡ put row at text

-- "right-aligned": a text in a column of the given width, behind blanks.
abbrev pub aligned : ℕ → List ℕ → List ℕ
aligned width text = replicate (width - length text) blank ++ text
