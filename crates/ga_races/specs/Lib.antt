pub mod Orders
pub mod Rounds
pub mod HappensBefore
pub mod Acts
pub mod Kahn
pub mod inner
