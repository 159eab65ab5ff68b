pub mod Writers
pub mod Glances
