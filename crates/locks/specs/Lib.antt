-- The definitions that the contracts of crate `locks` cite: the holders of sixteen locks in one word.
pub mod Holders
