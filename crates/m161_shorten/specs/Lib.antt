pub mod Blocks
pub mod Trials
pub mod Verdicts
pub mod Passes
pub mod Law
pub mod helpers
