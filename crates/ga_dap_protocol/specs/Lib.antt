pub mod Framing
pub mod Inbox
pub mod Messages
pub mod Sent
