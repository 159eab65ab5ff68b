pub mod Saving
pub mod Packed
