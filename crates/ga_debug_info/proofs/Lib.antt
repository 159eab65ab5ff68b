pub mod Adding
pub mod LineLemmas
pub mod Hinted
pub mod EditedLemmas
pub mod FieldLemmas
pub mod Pushes
