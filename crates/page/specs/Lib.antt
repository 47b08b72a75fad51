-- `Statements` says what is claimed of a page; the page itself is `Page` of crate `board`. `Merging` and `Cells` have what only private functions' contracts cite.
pub mod Statements
pub mod Merging
pub mod Cells
