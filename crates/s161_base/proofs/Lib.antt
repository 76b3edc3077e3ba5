pub mod Asking
pub mod Failing
pub mod Listing
mod Named
mod Plain
mod Sampled
pub mod Putting
pub mod Words
