-- `text::number::put_number` meets its contract: a digit by itself, or the digits from the end of twenty bytes on.
use Rattle.std.proofs.Common.{◌≡◌, ◌-◌, length, drop, refl, ap, ◌∙◌, arith, length-drop, take_all, rules}
use Rattle.text.specs.Numbers.{number_text}
use Rattle.text.specs.Writing.{put}
use Rattle.text.proofs.Numbers.{word_width, digit-put}
use Rattle.text.proofs.Writing.{put_back}
use Rattle.text.proofs.number.put_number.Goals as goal

pub put_divided-start-requires : goal.put_divided-start-requires
put_divided-start-requires c = (word_width c.args.n (search rules), omega arith)

pub returns-then-n-lt10 : goal.returns-then-n-lt10
returns-then-n-lt10 c = (digit-put c.args.n c.if-n-lt10.true c.put_byte.ensures, omega arith)

pub returns : goal.returns
returns c =
    let a = c.args in
    let d = c.put_divided-start in
    let part : drop d.result d.new.out ≡ number_text a.n = put_back d.ensures refl in
    let size : length (drop d.result d.new.out) ≡ 20 - d.result = omega (arith, length-drop d.result d.new.out, d.auto.out) in (
      record {
        ends = omega (arith, d.ensures.ends, ap length part);
        holds = c.put_text.ensures ∙ ap (put a.out.now a.at) (take_all (20 - d.result) (drop d.result d.new.out) (omega (arith, size)) ∙ part);
      },
      omega (arith, d.ensures.ends),
    )
