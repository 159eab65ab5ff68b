pub mod Lines
pub mod Digits
pub mod Parsing
pub mod Output
pub mod Image
pub mod Input
pub mod inner
