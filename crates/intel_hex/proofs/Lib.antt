-- `Theorems` proves what is claimed of HEX text. `Words`, `Spelling`, `Files` and `Canonical` lead to it; `Digits` and `Parsing` serve the functions' proofs too,
-- `Summing`, `Fronts` and the others those alone.
pub mod Digits
pub mod Chunks
pub mod Parsing
pub mod Words
pub mod Spelling
pub mod Files
pub mod Canonical
pub mod Theorems
pub mod Summing
pub mod Fronts
pub mod Measuring
pub mod Written
pub mod Stored
pub mod Filling
pub mod Shifting
pub mod Whole
pub mod Lanes
