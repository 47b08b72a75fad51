-- `Bits` has what is true of a word's bits, `Swept` of one whose bits are cleared one by one; `Words` what is true of a set in eight words, `Members` of one whose numbers go from 1 to a last one, `United` of eight words that have a number past it.
pub mod Bits
pub mod Swept
pub mod Words
pub mod Members
pub mod United
