pub mod Parsing
pub mod Run
