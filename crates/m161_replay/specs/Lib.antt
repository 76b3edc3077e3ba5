pub mod Seen
pub mod Law
pub mod Views
pub mod Replays
pub mod Standing
pub mod helpers
