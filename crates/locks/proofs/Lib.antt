-- `Holders` has what is true of the holders of sixteen locks in one word, `Lanes` what its bytes say at once.
pub mod Holders
pub mod Lanes
