-- The proofs of `specs/Changes.antt`: exactly what every taken call changes, on any board. Start at `Theorems`.
pub mod Rows
pub mod Hex
pub mod Workers
pub mod Steps
pub mod Theorems
