-- Laws that several functions' proofs cite.
pub mod Parts
pub mod Acts
pub mod Formats
pub mod Pages
pub mod TextWork
