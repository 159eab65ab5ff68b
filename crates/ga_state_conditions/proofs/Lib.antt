pub mod Between
pub mod Local
pub mod First
pub mod Reaching
pub mod Whole
pub mod Leading
pub mod Spelling
