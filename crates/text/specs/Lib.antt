-- `Powers` says what the table of the powers of ten is, `Numbers` how a number is written in decimal and read, `Writing` what a row of bytes is with a text written into it, `Appending` what a writer appends.
pub mod Appending
pub mod Ascii
pub mod Numbers
pub mod Powers
pub mod Writing
