pub mod Opening
pub mod Launches
pub mod Telling
pub mod Evaluating
pub mod Going
pub mod Answering
pub mod Client
pub mod inner
