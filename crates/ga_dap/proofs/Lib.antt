pub mod Known
pub mod Serves
pub mod LaunchedSession
pub mod Turned
