pub mod Chips
pub mod NodeIds
