-- `Tests` has what is true of the tests that code writes in another way than the definitions.
pub mod Tests
pub mod Scan
pub mod Walk
