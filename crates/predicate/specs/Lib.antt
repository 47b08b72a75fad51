-- Definitions that every crate above may cite.
pub mod Passing
