mod Places
pub mod Shown
