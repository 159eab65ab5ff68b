pub mod Ends
pub mod Histories
pub mod Lending
pub mod Marks
pub mod Stored
