-- `Effects` has the steps of a checkpoint by their cases, `Bounds` what the bounds of specs/ give at the step at hand.
pub mod Effects
pub mod Bounds
