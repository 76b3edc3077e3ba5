pub mod Verdict
pub mod Judge
pub mod Run
pub mod Seen
pub mod Begun
pub mod Memory
pub mod Laws
pub mod helpers
