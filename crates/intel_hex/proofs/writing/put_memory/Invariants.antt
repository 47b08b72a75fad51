-- `hex::writing::put_memory` meets its contract. The invariant: the writer stands behind the records of the words before `2 * i`, and with the text
-- of the words from there on, the memory's text is written.
use Prim.Native.Nat.{◌*◌}
use mathlib.Core.Path.{◌≡◌}
use lib.ListN.{drop, length}
use Rattle.text.specs.Writing.{put}
use Rattle.board.specs.Hex.{hex_from, hex_text}
use Rattle.intel_hex.proofs.writing.put_memory.Given as goal

-- What holds before each record.
pub record Written (l : goal.Live-loop-i) : Type 0 where
  pub same : l.writer.out.ghost_name ≡ l.initial.writer.out.ghost_name
  pub long : length l.writer.out.now ≡ length l.fn.text
  pub here : l.writer.at ≡ 44 * l.i
  pub text : put l.writer.out.now (44 * l.i) (hex_from (16 * l.i) (drop (2 * l.i) l.memory)) ≡ put l.fn.text 0 (hex_text l.memory)

abbrev pub invariant-loop-i : goal.invariant-loop-i
invariant-loop-i l = Written l
