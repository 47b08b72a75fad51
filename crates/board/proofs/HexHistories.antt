-- The proofs of `specs/HexHistories.antt`. Start at `Theorems`.
pub mod Begins
pub mod Text
pub mod FormatBefore
pub mod InHistory
pub mod Theorems
