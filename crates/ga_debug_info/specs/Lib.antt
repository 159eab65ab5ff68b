pub mod Source
pub mod Notes
pub mod Faults
pub mod Edited
pub mod Unrepresented
pub mod inner
pub mod Given
