-- `page::lines::put_line` meets its contract: each number ends where its column of the blank line ends.
use mathlib.Core.Path.{refl}
use native.Mathlib.Omega.{arith}
use native.Mathlib.Nat.{le_trans}
use borrow.Author.Rules.{rules}
use Rattle.text.proofs.Numbers.{number-width, word_width}
use Rattle.page.proofs.Texts.{line-put}
use Rattle.page.proofs.lines.put_line.Goals as goal

pub put_digits-requires : goal.put_digits-requires
put_digits-requires c = (search rules, le_trans (number-width 3 _ (search rules)) (omega arith), search rules)

pub put_digits-requires-2 : goal.put_digits-requires-2
put_digits-requires-2 c = (search rules, le_trans (word_width _ (search rules)) (omega arith), search rules)

pub put_digits-requires-3 : goal.put_digits-requires-3
put_digits-requires-3 c = (search rules, le_trans (word_width _ (search rules)) (omega arith), search rules)

pub put_digits-requires-4 : goal.put_digits-requires-4
put_digits-requires-4 c = (search rules, le_trans (word_width _ (search rules)) (omega arith), search rules)

pub returns : goal.returns
returns c = (
  line-put c.requires.1 (number-width 3 c.args.cell c.requires.0) (word_width _ (search rules)) (word_width _ (search rules)) (word_width _ (search rules))
      c.put_blank_line.ensures c.put_digits.ensures c.put_digits-2.ensures c.put_digits-3.ensures c.put_digits-4.ensures,
  refl,
)
