mod Bits
pub mod Memory
pub mod Covering
mod Cop0
mod Heard
mod HeardStep
mod Timeless
mod TimelessStep
mod Looking
mod Viewed
mod Decoded
pub mod Telling
pub mod Written
pub mod Behaving
mod Restoring
mod RestoringMemory
mod RestoringBoard
mod Bounding
