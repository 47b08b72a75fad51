-- A checkpoint: its acts and stages, memory after a write-back, and when it ends.
pub mod Run
pub mod Memory
pub mod Stages
pub mod Back
pub mod Acts
pub mod Ends
