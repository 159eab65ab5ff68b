pub mod Asked
pub mod Deciding
pub mod Fetched
pub mod Lines
pub mod Origins
pub mod Sources
pub mod Writes
pub mod inner
