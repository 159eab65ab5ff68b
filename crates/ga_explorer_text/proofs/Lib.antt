pub mod Rows
pub mod Saying
pub mod Saving
pub mod Because
pub mod Rings
pub mod Ending
pub mod Words
pub mod Statuses
