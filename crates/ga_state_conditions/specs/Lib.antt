pub mod Held
pub mod Reached
pub mod Asked
pub mod inner
