-- Laws that several functions' proofs cite.
pub mod Sums
pub mod Arms
pub mod Theorems
