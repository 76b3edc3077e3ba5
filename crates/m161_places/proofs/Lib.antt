mod Shifting
mod Ranges
mod Splitting
pub mod Alike
pub mod Effective
pub mod Along
pub mod Moving
mod Apart
pub mod Differing
pub mod Turning
pub mod Exchanging
mod Noting
