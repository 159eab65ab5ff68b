pub mod Logs
pub mod Places
pub mod NodeCopies
