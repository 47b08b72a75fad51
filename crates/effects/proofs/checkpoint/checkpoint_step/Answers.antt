-- `effects::checkpoint::checkpoint_step` meets its contract: each branch does the act that comes at its place, within the bounds of `Checkpoints`.
use native.Mathlib.Omega.{arith}
use borrow.Author.Rules.{rules}
use Rattle.effects.proofs.Bounds.{dirty-in, epoch-in, place-fits}
use Rattle.effects.proofs.Effects.{writes-dirty, stores-epoch, writes-header, releases}
use Rattle.effects.proofs.checkpoint.checkpoint_step.Goals as goal

pub write_back-requires : goal.write_back-requires
write_back-requires c =
    let found = rw c.in-Some.is at c.ranked-next.ensures.nth in
    dirty-in _ _ _ c.requires c.ranked-next.ensures.size c.from-place.ensures (omega (arith, found.0, c.ranked-next.ensures.size)) found.1

pub next_place-requires : goal.next_place-requires
next_place-requires c = search (rules, place-fits)

pub returns-in-Some : goal.returns-in-Some
returns-in-Some c =
    let found = rw c.in-Some.is at c.ranked-next.ensures.nth in
    writes-dirty _ _ _ (search rules) c.ranked-next.ensures.size (rw c.from-place.ensures at found.1) (omega (arith, found.0, c.ranked-next.ensures.size)) c.next_place.ensures c.write_back.ensures

pub next_place-requires-then-place-n : goal.next_place-requires-then-place-n
next_place-requires-then-place-n c = search (rules, place-fits)

pub overflow_add-epoch : goal.overflow_add-epoch
overflow_add-epoch c = record { fits = search (rules, epoch-in) }

pub returns-then-place-n : goal.returns-then-place-n
returns-then-place-n c = search (rules, stores-epoch)

pub next_place-requires-then-place-n-2 : goal.next_place-requires-then-place-n-2
next_place-requires-then-place-n-2 c = search (rules, place-fits)

pub returns-then-place-n-2 : goal.returns-then-place-n-2
returns-then-place-n-2 c = search (rules, writes-header)

pub returns : goal.returns
returns c =
    let none = rw c.in_default.is at c.ranked-next.ensures.nth in
    releases _ _ _ (search rules) c.ranked-next.ensures.size (search rules) (omega (arith, none, c.ranked-next.ensures.size)) (rw c.from-place.ensures at c.if-place-n.false) (rw c.from-place.ensures at c.if-place-n-2.false) c.released.ensures
