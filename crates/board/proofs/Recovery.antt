-- A recovery: what it leaves step by step, how many steps it has left, and what it reads at its end.
pub mod Board
pub mod Stops
pub mod Rows
pub mod Count
pub mod Ends
pub mod Finishes
pub mod Starts
