pub mod Characters
pub mod Digits
pub mod Grammar
pub mod Says
pub mod Texts
pub mod Written
