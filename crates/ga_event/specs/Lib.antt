pub mod Touches
pub mod Apply
pub mod Next
pub mod Undo
pub mod Told
pub mod Flow
pub mod Sources
pub mod inner
