pub mod Frames
pub mod Links
pub mod Motions
pub mod Packets
pub mod Stops
pub mod helpers
