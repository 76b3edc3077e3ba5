pub mod Chains
pub mod helpers
