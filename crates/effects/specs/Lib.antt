-- What the functions behind the calls ask of what they are lent, and what a step gives back.
pub mod Bounds
pub mod Progress
