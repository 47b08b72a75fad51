-- The count foretells a checkpoint's steps, and those write each dirty line once.
pub mod Rising
pub mod Steps
pub mod Theorems
