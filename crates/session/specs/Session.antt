-- What a session works on: the state record, and the parts in use of two arrays that have room for the largest board and of one that has room for the longest text.
use Rattle.std.specs.Prelude.{◌≡◌, ℕ, List, [], take}
use Rattle.board.specs.declared.Phase.TheVariants.{Off}
use Rattle.board.specs.Board.{Board, shaped}
use Rattle.board.specs.State.{started}
use Rattle.board.specs.Next.{lent}
use Rattle.session.specs.declared.desk.Rows.{Rows}
use Rattle.session.specs.declared.desk.Session.{Session}

-- What a script works on: the board, and the fault program's text beside it.
pub record Desk : Type 0 where
  pub board : Board
  pub text : List ℕ

-- A board and a text, put together.
abbrev pub desk : Board → List ℕ → Desk
desk board text = record { board = board; text = text }

-- The board of a session.
abbrev pub board_of : Session → Rows → Board
board_of s rows = lent s.state (take s.memory rows.memory.now) (take s.cache rows.cache.now)

-- The board and the text of a session.
abbrev pub desk_of : Session → Rows → Desk
desk_of s rows = desk (board_of s rows) (take s.text rows.text.now)

-- The same three arrays are lent.
pub record SameRows (old new : Rows) : Type 0 where
  pub memory : new.memory.ghost_name ≡ old.memory.ghost_name
  pub cache : new.cache.ghost_name ≡ old.cache.ghost_name
  pub text : new.text.ghost_name ≡ old.text.ghost_name

-- "before one they are empty and the phase is off"; every other field is 0, no lock is held, all workers are free.
abbrev pub first_board : Board
first_board = lent (started Off (shaped 0) 0) [] []

-- "Before the first `h` the text is empty".
abbrev pub first_desk : Desk
first_desk = desk first_board []
