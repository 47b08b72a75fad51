-- The definitions that the contracts of crate `line` cite: document 01, "Lines and cells".
pub mod Line
pub mod Cell
