pub mod Watch
pub mod WatchText
pub mod Stale
pub mod Tracking
pub mod Audit
pub mod Going
pub mod helpers
