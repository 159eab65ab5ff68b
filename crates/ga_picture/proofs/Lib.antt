pub mod Shaded
pub mod Listed
pub mod Running
pub mod Laid
pub mod Loose
pub mod Following
