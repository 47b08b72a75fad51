-- `Theorems` proves what is claimed of a page; `Inserting`, `Merging`, `Halves` and `Unique` have the laws of lists in order, `Ordering` and `Texts` those of a page's.
pub mod Inserting
pub mod Merging
pub mod Halves
pub mod Unique
pub mod Ordering
pub mod Texts
pub mod Theorems
