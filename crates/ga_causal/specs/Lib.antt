pub mod Dependence
pub mod Steps
pub mod Equivalence
pub mod Words
pub mod Chains
pub mod inner
