pub mod Commands
pub mod Replies
pub mod Session
pub mod Run
pub mod Selectors
pub mod Settings
pub mod Race
pub mod inner
