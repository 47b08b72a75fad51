-- What the contracts of crate `checks` cite beside document 01's definitions in crate `board`.
pub mod Head
pub mod Marks
