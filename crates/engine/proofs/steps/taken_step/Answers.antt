-- `engine::steps::taken_step` meets its contract: each arm is told the phase, and a taken step gives its bounds.
use mathlib.Core.Path.{refl}
use Rattle.engine.proofs.Passed.{step-formats, step-recovers, step-checkpoints}
use Rattle.board.specs.Effects.{step}
use Rattle.effects.proofs.Effects.{same-board}
use Rattle.engine.proofs.Effect.{in-phase}
use Rattle.engine.proofs.steps.taken_step.Goals as goal

pub format_step-requires : goal.format_step-requires
format_step-requires c = step-formats _ c.requires c.in-Formatting.is

pub recovery_step-requires : goal.recovery_step-requires
recovery_step-requires c = step-recovers _ c.requires c.in-Recovering.is

pub checkpoint_step-requires : goal.checkpoint_step-requires
checkpoint_step-requires c = step-checkpoints _ c.requires c.in-Running.is

pub returns-in-Off : goal.returns-in-Off
unfolding step
returns-in-Off c = in-phase _ _ _ c.in-Off.is (same-board c.placed.ensures refl refl)

pub returns-in-Formatting : goal.returns-in-Formatting
unfolding step
returns-in-Formatting c =
    in-phase _ _ _ c.in-Formatting.is c.format_step.ensures

pub returns-in-Recovering : goal.returns-in-Recovering
unfolding step
returns-in-Recovering c =
    in-phase _ _ _ c.in-Recovering.is c.recovery_step.ensures

pub returns-in-Running : goal.returns-in-Running
unfolding step
returns-in-Running c =
    in-phase _ _ _ c.in-Running.is c.checkpoint_step.ensures
