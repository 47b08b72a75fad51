-- The proofs of `specs/Steps.antt`: what single calls do on any board. Start at `Theorems`.
pub mod Format
pub mod Recovery
pub mod Workers
pub mod Others
pub mod Table
pub mod Starts
pub mod Opens
pub mod Theorems
