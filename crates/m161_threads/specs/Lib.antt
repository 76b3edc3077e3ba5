pub mod Shares
pub mod Runs
pub mod helpers
