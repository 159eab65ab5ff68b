pub mod Applied
pub mod Locality
pub mod Steadiness
pub mod Nexts
pub mod Flowing
pub mod Following
pub mod Sources
pub mod Tracks
