pub mod Console
pub mod Outcome
pub mod Registers
pub mod Board
pub mod Restore
pub mod helpers
