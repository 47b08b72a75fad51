-- The part used up lies within what is left of the piece, so what it leaves is what the piece up to there leaves.
use Rattle.std.proofs.Common.{arith, rules, ap, refl, length, length-take-le, length-drop, ◌-◌, drop}
use Rattle.console.specs.Pieces.{Fed, fed}
use Rattle.console.proofs.Pieces.{used-more}
use Rattle.shell.proofs.converse.Goals as goal

pub loop-used-init : goal.loop-used-init
unfolding fed
loop-used-init g c = record { within = omega arith; so_far = refl; same = search rules }

pub loop-used-preserved : goal.loop-used-preserved
loop-used-preserved g c =
    let piece = c.args.piece.now in
    let used = c.loop-used.used in
    let r = c.answer-r in
    let stops = r.ensures.stops in record {
      within = omega (arith, stops.used-within, length-drop used piece, length-take-le (length piece - used) (drop used piece));
      so_far = used-more c.args.program _ _ _ piece used r.result.used c.loop-used.invariant.so_far stops.used-within
          (ap (λ (f : Fed). f.after) r.ensures.fed);
      same = search (rules, c.loop-used.invariant.same, r.ensures.same);
    }
