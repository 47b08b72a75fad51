-- `Statements` says what is claimed of HEX text; the text itself is `Hex` of crate `board`.
-- `Storing` and `Lanes` have what only private functions' contracts cite.
pub mod Statements
pub mod Storing
pub mod Lanes
