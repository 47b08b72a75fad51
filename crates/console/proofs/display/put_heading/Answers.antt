-- `console::display::put_heading` meets its contract: the parts of `header_line` are written one after the other.
use Rattle.std.proofs.Common.{rules, arith}
use Rattle.text.proofs.Writing.{and_then}
use Rattle.console.specs.Display.{header_line}
use Rattle.console.proofs.display.put_heading.Goals as goal

pub returns : goal.returns
unfolding header_line
returns c =
    let t1 = and_then c.put_text.ensures.put c.put_number.ensures.0.put (omega arith) in
    let t2 = and_then t1 c.put_text-2.ensures.put (omega arith) in
    let t3 = and_then t2 c.put_number-2.ensures.0.put (omega arith) in
    let t4 = and_then t3 c.put_text-3.ensures.put (omega arith) in
    let t5 = and_then t4 c.put_number-3.ensures.0.put (omega arith) in
    let t6 = and_then t5 c.put_byte.ensures.put (omega arith) in
    (search (rules, t6), omega arith)
