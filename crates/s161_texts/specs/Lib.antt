pub mod Assemblies
pub mod Listings
pub mod Shared
pub mod Traces
pub mod helpers
