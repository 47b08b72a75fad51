use Rattle.std.proofs.Common.{◌<◌, length, sym, refl, arith, rules}
use Rattle.console.specs.Pieces.{carried_by}
use Rattle.console.proofs.Pieces.{fed-none, line-more, rest_more, kept_by, begun-short}
use Rattle.console.proofs.progress.Ongoing.answer.Goals as goal

pub loop-at-init : goal.loop-at-init
loop-at-init c =
    let a = c.args in record {
      at_within = omega arith;
      end_within = omega arith;
      goes_on = omega arith;
      so_far = sym (fed-none a.program (carried_by a.self a.buffers.now));
      same = search rules;
    }

pub returns-then-stop-piece : goal.returns-then-stop-piece
returns-then-stop-piece c =
    let a = c.args in
    let l = c.loop-at in
    let i = l.invariant in
    let stop = c.feed_at-stop in
    let k = c.keep_rest in record {
      fed = rest_more a.program _ _ _ a.piece.now l.at i.so_far (begun-short l.reached l.buffers.line.now) stop.result (omega arith) stop.ensures.0 c.if-stop-piece.true (kept_by k.result l.reached l.buffers k.new.line _ k.ensures);
      stops = record { used-within = omega arith; written-within = i.end_within; buffer-full = λ h. absurd (omega arith); goes_on = λ h. omega arith };
      same = search (rules, i.same);
    }

pub end_line-r-requires : goal.end_line-r-requires
end_line-r-requires c = omega (arith, c.if-end-le65456.true)

pub overflow_add-at : goal.overflow_add-at
overflow_add-at c = omega (arith, (let inside : c.feed_at-stop.result < length c.args.piece.now = omega (arith, c.feed_at-stop.ensures.2, c.if-stop-piece.false) in inside))

pub loop-at-smaller : goal.loop-at-smaller
loop-at-smaller c = omega (arith, (let inside : c.feed_at-stop.result < length c.args.piece.now = omega (arith, c.feed_at-stop.ensures.2, c.if-stop-piece.false) in inside), c.feed_at-stop.ensures.1)

pub loop-at-preserved : goal.loop-at-preserved
loop-at-preserved c =
    let a = c.args in
    let l = c.loop-at in
    let stop = c.feed_at-stop in
    let ends = c.end_line-r.ensures in
    let stands : stop.result < length a.piece.now = omega (arith, stop.ensures.2, c.if-stop-piece.false) in record {
      at_within = omega arith;
      end_within = omega (arith, ends.ends.within, c.if-end-le65456.true);
      goes_on = omega (arith, ends.ends.within, c.if-end-le65456.true);
      so_far = line-more a.program _ _ _ a.piece.now l.at l.invariant.so_far (begun-short l.reached l.buffers.line.now)
          stop.result stop.ensures.0 stands refl ends.ends;
      same = search (rules, l.invariant.same, ends.same);
    }

pub returns-else-end-le65456 : goal.returns-else-end-le65456
returns-else-end-le65456 c =
    let i = c.loop-at.invariant in
    let full : 65456 < c.loop-at.end = c.if-end-le65456.false in record {
      fed = i.so_far;
      stops = record { used-within = omega arith; written-within = i.end_within; buffer-full = λ h. omega arith; goes_on = λ h. omega (arith, i.goes_on) };
      same = search (rules, i.same);
    }

pub returns-after-loop-at : goal.returns-after-loop-at
returns-after-loop-at c =
    let i = c.loop-at.invariant in record {
      fed = i.so_far;
      stops = record { used-within = omega arith; written-within = i.end_within; buffer-full = λ h. absurd (omega arith); goes_on = λ h. omega arith };
      same = search (rules, i.same);
    }
