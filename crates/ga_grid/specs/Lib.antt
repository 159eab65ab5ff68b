pub mod Grid
pub mod Chip
