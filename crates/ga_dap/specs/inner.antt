pub mod Knowing
pub mod Carrying
pub mod Turning
pub mod Unopened
