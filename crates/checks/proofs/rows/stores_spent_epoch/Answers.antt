-- Each part is the part of the definition, where a checkpoint steps in the last epoch; elsewhere the count is not asked for.
use Rattle.std.proofs.Common.{◌≡◌, refl, sym, ap₂, ◌∙◌, Bool, true, false, ◌&&◌}
use Rattle.predicate.proofs.Bools.{and_left, and_right}
use Rattle.board.specs.declared.State.{State}
use Rattle.board.specs.State.{is_running}
use Rattle.board.specs.Causes.{checkpointing}
use Rattle.board.specs.Next.{lent}
use Rattle.board.proofs.Checkpoint.Acts.{epoch-next}
use Rattle.checks.proofs.rows.stores_spent_epoch.Goals as goal

-- Of three tests the first and the last hold, so the one between decides.
between : {a c : Bool} (p b q : Bool) → a ≡ p → c ≡ q → a && c ≡ true → b ≡ p && b && q
between p b q e f t = go p b q (ap₂ ◌&&◌ (sym e) (sym f) ∙ t)
  where
    go : (p b q : Bool) → p && q ≡ true → b ≡ p && b && q
    go true true true t = refl
    go true false true t = refl
    go true b false t = cc
    go false b q t = cc

-- One of the two does not hold, so not all three do.
not-both : {a c : Bool} (p b q : Bool) → a ≡ p → c ≡ q → a && c ≡ false → false ≡ p && b && q
not-both p b q e f t = go p b q (ap₂ ◌&&◌ (sym e) (sym f) ∙ t)
  where
    go : (p b q : Bool) → p && q ≡ false → false ≡ p && b && q
    go true true q t = sym t
    go true false q t = refl
    go false b q t = refl

-- Where a checkpoint steps, a request stands.
stepping : (s : State) → checkpointing s ≡ true → s.requested ≡ true
stepping s t = and_right (is_running s.phase) s.requested t

pub returns-then-checkpointing-epoch_spent : goal.returns-then-checkpointing-epoch_spent
returns-then-checkpointing-epoch_spent c m =
    let state = c.args.state in
    let steps = c.checkpointing.ensures in
    let both = c.if-checkpointing-epoch_spent.true in
    let requested = stepping state (sym steps ∙ and_left _ _ both) in
    rw (c.from.ensures, c.size.ensures, ← epoch-next (lent state m c.args.cache.now) requested)
    (between _ _ _ steps (c.epoch_spent.ensures state m) both)

pub returns-else-checkpointing-epoch_spent : goal.returns-else-checkpointing-epoch_spent
returns-else-checkpointing-epoch_spent c m =
    let off = c.if-checkpointing-epoch_spent.false in
    off ∙ not-both _ _ _ c.checkpointing.ensures (c.epoch_spent.ensures c.args.state m) off
