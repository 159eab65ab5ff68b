pub mod Compact
pub mod Diagnostics
pub mod FieldValues
pub mod Fields
pub mod Grammar
pub mod Names
pub mod Values
pub mod inner
