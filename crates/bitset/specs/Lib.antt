-- The definitions that the contracts of crate `bitset` cite: a set of numbers below 512 in eight words.
pub mod Words
