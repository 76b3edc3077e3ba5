pub mod Value
pub mod helpers
