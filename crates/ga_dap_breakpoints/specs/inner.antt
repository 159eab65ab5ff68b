pub mod Cells
pub mod Halting
pub mod Stepping
pub mod Words
