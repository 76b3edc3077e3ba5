pub mod Amounts
pub mod helpers
