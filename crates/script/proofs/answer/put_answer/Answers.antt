-- `script::answer::put_answer` meets its contract: the parts of `answer_text` are written one after the other.
use Rattle.std.proofs.Common.{rules, arith}
use Rattle.script.specs.Answers.{answer_text}
use Rattle.text.proofs.Writing.{and_then}
use Rattle.script.proofs.answer.put_answer.Goals as goal

pub returns : goal.returns
unfolding answer_text
returns c =
    let t1 = and_then c.put_number.ensures.0.put c.put_byte.ensures.put (omega arith) in
    let t2 = and_then t1 c.put_byte-2.ensures.put (omega arith) in
    let t3 = and_then t2 c.put_byte-3.ensures.put (omega arith) in
    let t4 = and_then t3 c.put_shown.ensures.0.put (omega arith) in
    let t5 = and_then t4 c.put_byte-4.ensures.put (omega arith) in
    let t6 = and_then t5 c.put_shown-2.ensures.0.put (omega arith) in
    let t7 = and_then t6 c.put_byte-5.ensures.put (omega arith) in
    (search (rules, t7), omega arith)
