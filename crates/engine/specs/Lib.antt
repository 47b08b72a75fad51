-- What the contracts of crate `engine` cite beside document 01's definitions in crate `board` and the refusals of crate `causes`.
pub mod Answers
