-- Laws that several functions' proofs cite.
pub mod Feeds
pub mod Refused
pub mod LineEnds
pub mod Pieces
pub mod Pages
pub mod HexPrinted
pub mod Theorems
pub mod Sample
pub mod Recovered
pub mod Displays
pub mod AlwaysShown
pub mod ShownAsRead
