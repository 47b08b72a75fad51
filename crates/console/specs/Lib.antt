-- `Transcript` says what is written for a whole input and which board it leaves, `Pieces` that it may come in any pieces, `Printing` what the page and HEX programs print, `Display` what is shown of a HEX text.
pub mod Bytes
pub mod Transcript
pub mod Pieces
pub mod Printing
pub mod Display
