-- Laws that every proof here leans on.
pub mod Count
pub mod Dirty
pub mod View
pub mod Only
pub mod Rows
pub mod Taken
pub mod Quiet
pub mod Workers
pub mod Locks
pub mod Idle
pub mod Takes
pub mod Reading
pub mod Parts
pub mod Playing
