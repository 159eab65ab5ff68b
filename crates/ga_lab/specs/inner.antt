pub mod LabInvariant
pub mod Walking
