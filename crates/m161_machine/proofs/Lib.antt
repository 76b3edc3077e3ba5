pub mod Leading
pub mod Continuing
pub mod Counting
pub mod Resuming
pub mod Counted
mod Accepting
mod Given
pub mod Linking
pub mod Storing
mod Starting
mod Places
mod Stepping
pub mod Made
mod Advancing
mod Writing
mod Sliding
mod Again
mod Transfers
mod Booted
pub mod OneBoot
mod Unfolding
mod Using
mod Idle
pub mod Stretching
pub mod Modes
mod Restoring
