pub mod Log
pub mod Close
pub mod inner
