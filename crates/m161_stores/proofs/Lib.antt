mod Sighting
mod Counting
mod Telling
pub mod Watching
