pub mod Fields
pub mod Grammar
pub mod Spelling
pub mod Reading
pub mod FirstFault
pub mod Printing
pub mod inner
pub mod Given
