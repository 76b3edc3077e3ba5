pub mod Unaudited
pub mod Asking
pub mod Booting
pub mod Reading
pub mod Failing
pub mod Telling
pub mod Judging
pub mod Delaying
pub mod Numbers
pub mod Pointing
pub mod Exploring
mod Behind
mod Starting
mod Noting
mod Storing
