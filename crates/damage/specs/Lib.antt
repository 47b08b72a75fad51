-- `Damages` says what each damaging line leaves and shows; `Record` what it does to the state record, `Rows` to a row; `Checksum` is the checksum of numbers and of everything.
pub mod Record
pub mod Rows
pub mod Checksum
pub mod Damages
