-- `Theorems` has what is claimed of a number's text and of the table of powers. The rest are laws: `Numbers` and `Writing` serve proofs above too;
-- `TenTimes` is of the table, `Counting` of one digit, `Running` of digits one after the other, `Places` of a whole number.
pub mod Counting
pub mod Numbers
pub mod Places
pub mod Running
pub mod TenTimes
pub mod Writing
pub mod Theorems
