-- The proofs of `specs/Locks.antt`: who holds a lock, and that no two updates meet. Start at `Theorems`.
pub mod Record
pub mod Held
pub mod Conflict
pub mod Theorems
