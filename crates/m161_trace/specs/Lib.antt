pub mod Items
pub mod Loads
pub mod Touched
pub mod Line
pub mod Law
pub mod helpers
