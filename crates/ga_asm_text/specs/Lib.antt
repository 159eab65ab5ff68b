pub mod Source
pub mod SourceJson
pub mod inner
