-- What the contracts of crate `causes` cite beside document 01's definitions in crate `board`.
pub mod Refusals
