pub mod Items
pub mod Drawing
pub mod Picture
pub mod inner
pub mod Following
