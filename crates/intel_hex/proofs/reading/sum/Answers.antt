use Prim.Native.Nat.{◌/◌, ◌<◌}
use mathlib.Core.Path.{ap, ◌∙◌}
use native.Mathlib.Omega.{arith}
use lib.ListN.{length}
use Rattle.board.specs.Hex.{hex_digit}
use Rattle.intel_hex.proofs.Chunks.{pair_at}
use Rattle.intel_hex.proofs.Summing.{summing-more, summing-all}
use Rattle.intel_hex.proofs.reading.sum.Goals as goal

pub loop-pair-preserved : goal.loop-pair-preserved
loop-pair-preserved c =
    let t = c.args.text.now in
    let k = c.loop-pair.pair-index in
    let h : k < length t / 2 = omega (arith, c.loop-pair-test.true, c.as_chunks.ensures.front_len) in
    let pair = pair_at t k c.as_chunks.ensures.front h in
    summing-more c.loop-pair.invariant h (c.digit-high.ensures ∙ ap hex_digit pair.0) (c.digit-low.ensures ∙ ap hex_digit pair.1)

pub returns-then-strays-eq0 : goal.returns-then-strays-eq0
returns-then-strays-eq0 c = summing-all c.loop-pair.invariant (omega (arith, c.loop-pair-test.false, c.as_chunks.ensures.front_len)) c.if-strays-eq0.true
