-- Each call keeps the invariant; `Every` is all of them over whole histories.
pub mod OnePlace
pub mod FormatStart
pub mod FormatStep
pub mod RecoveryStart
pub mod RecoveryStep
pub mod Request
pub mod Update
pub mod Advance
pub mod WriteBack
pub mod CheckpointStep
pub mod Quiet
pub mod Away
pub mod Locks
pub mod Every
