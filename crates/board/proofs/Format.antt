-- A format, on any board.
pub mod Rows
pub mod Board
pub mod Begins
pub mod Ends
