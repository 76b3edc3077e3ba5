pub mod Asking
pub mod Following
mod Failing
pub mod Making
mod Shown
pub mod Keeping
mod Threading
pub mod Logging
mod Sending
mod Choosing
mod Running
mod Scheduling
mod Turning
mod Looking
pub mod Listing
