pub mod Assemblies
pub mod Failures
pub mod Listings
pub mod Prompts
pub mod Waits
pub mod Works
pub mod helpers
