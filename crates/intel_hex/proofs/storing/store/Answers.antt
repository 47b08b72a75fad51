use Prim.Native.Nat.{◌+◌, ◌*◌}
use mathlib.Core.Path.{ap, ◌∙◌}
use native.Mathlib.Omega.{arith}
use lib.ListN.{length, length-drop}
use borrow.Author.Rules.{rules}
use Rattle.board.specs.Hex.{Parsed, count_of, parsed, read_bytes}
use Rattle.intel_hex.proofs.Filling.{storing-begins, storing-there, piece-of, storing-fits, storing-more, storing-ends}
use Rattle.intel_hex.proofs.Shifting.{words-stored}
use Rattle.intel_hex.proofs.storing.store.Goals as goal

pub loop-data-init : goal.loop-data-init
loop-data-init c = storing-begins c.requires.0

pub split_data-requires : goal.split_data-requires
split_data-requires c = storing-there c.loop-data.invariant

pub store_part-requires : goal.store_part-requires
store_part-requires c =
    let s = c.loop-data.invariant in
    let e = c.in-Some.ensures in
    let p = piece-of (storing-there s) e.0 e.1 in
    let f = storing-fits s p in
    (f.0, omega (arith, f.1, p.long), omega (arith, s.size, c.requires.1))

pub loop-data-smaller : goal.loop-data-smaller
loop-data-smaller c =
    let e = c.in-Some.ensures in
    let p = piece-of (storing-there c.loop-data.invariant) e.0 e.1 in
    omega (arith, ap length e.2, length-drop (2 * count_of c.loop-data.rest.now + 12) c.loop-data.rest.now, p.within)

pub loop-data-preserved : goal.loop-data-preserved
loop-data-preserved c =
    let s = c.loop-data.invariant in
    let e = c.in-Some.ensures in
    storing-more s (piece-of (storing-there s) e.0 e.1) c.store_part.ensures e.2

pub returns : goal.returns
returns c =
    let t = c.args.text.now in
    let r = c.args.row.now in
    storing-ends c.loop-data.invariant c.in_default.ensures
    ∙ words-stored (length r) r 0 (read_bytes (parsed t)) (omega arith) (ap (λ (p : Parsed). length (read_bytes p)) c.requires.0.parses ∙ c.requires.0.fills)
    (λ i h. search rules)
