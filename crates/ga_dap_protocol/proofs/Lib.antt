pub mod Frames
pub mod Unique
pub mod Wholes
