-- `Laws` has what is true of rows, lines and cells' fields, for the proofs of this crate and of those above it; `Part` what is true of a line's part that is lent.
pub mod Laws
pub mod Part
