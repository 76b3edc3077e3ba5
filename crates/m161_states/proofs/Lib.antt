mod Apart
mod Memory
mod Seen
pub mod Law
mod Lists
mod Boards
mod Changes
mod Steps
pub mod Shapes
mod Told
mod Agreed
mod Followed
mod Audited
mod Ranked
