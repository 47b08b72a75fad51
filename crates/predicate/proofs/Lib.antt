-- `Bools` has laws of single tests, `Passing` those of the numbers that pass a test, `Rising` of the list of them.
pub mod Bools
pub mod Passing
pub mod Rising
