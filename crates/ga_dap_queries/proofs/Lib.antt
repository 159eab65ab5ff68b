pub mod Names
pub mod Listed
pub mod Asking
pub mod Sent
pub mod References
