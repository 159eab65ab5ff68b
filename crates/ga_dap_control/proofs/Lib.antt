pub mod Described
pub mod WentLines
pub mod Placed
pub mod Answered
pub mod Referred
