-- A piece of text behind what a writer has written.
use Rattle.std.specs.Prelude.{◌≡◌, ℕ, List, length}
use Rattle.text.specs.Writing.{Put}
use Rattle.text.specs.declared.writer.Writer.{Writer}

-- `text` was written at the writer's place and nothing else, into the same row, which is as long as before; the writer stands behind it.
pub record Appended (old : Writer) (text : List ℕ) (new : Writer) : Type 0 where
  pub same : new.out.ghost_name ≡ old.out.ghost_name
  pub long : length new.out.now ≡ length old.out.now
  pub put : Put old.out.now old.at text new.out.now new.at
