pub mod Beginnings
pub mod Following
pub mod Cells
pub mod Moving
pub mod Reversals
pub mod Tallies
