pub mod Races
pub mod Readings
pub mod inner
