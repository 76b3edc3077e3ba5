pub mod Apart
pub mod Found
