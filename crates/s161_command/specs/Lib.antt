pub mod Numbers
pub mod Repeated
pub mod Links
pub mod Classes
pub mod Delays
pub mod Drives
pub mod Commands
pub mod helpers
