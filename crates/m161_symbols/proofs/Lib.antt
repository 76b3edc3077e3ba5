pub mod Nearest
pub mod Found
mod Listed
