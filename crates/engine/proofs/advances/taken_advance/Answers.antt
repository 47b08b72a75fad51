-- `engine::advances::taken_advance` meets its contract: each arm is told the condition, and a taken advance gives the bounds of its store.
use mathlib.Core.Path.{refl, sym, ◌∙◌}
use Rattle.std.proofs.Common.{inl, inr}
use Rattle.engine.proofs.Passed.{advance-stores}
use Rattle.board.specs.Effects.{advance_of}
use Rattle.engine.proofs.Effect.{in-condition}
use Rattle.engine.proofs.advances.taken_advance.Goals as goal

pub store_next-requires : goal.store_next-requires
store_next-requires c = advance-stores _ _ c.requires (sym c.in-Updating.ensures)

pub returns-in-Free : goal.returns-in-Free
unfolding advance_of
returns-in-Free c =
    let found = sym c.condition_of.ensures in
    elim c.in-Free.is [
      | inl free ↦ in-condition _ _ _ _ (found ∙ free) refl
      | inr other ↦ elim other [
        | inl waiting ↦ in-condition _ _ _ _ (found ∙ waiting) refl
        | inr away ↦ in-condition _ _ _ _ (found ∙ away) refl
      ]
    ]

pub returns-in-Updating : goal.returns-in-Updating
unfolding advance_of
returns-in-Updating c = in-condition _ _ _ _ (sym c.in-Updating.ensures) (c.store_next.ensures _)
