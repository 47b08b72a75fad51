-- `Session` says which board and which text the program's arrays hold, `Lines` what a line of the script does to them and shows.
pub mod Session
pub mod Lines
