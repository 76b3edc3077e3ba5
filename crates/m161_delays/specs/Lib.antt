pub mod Lists
pub mod Runs
pub mod Search
pub mod Slices
pub mod helpers
