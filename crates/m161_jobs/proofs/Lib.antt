pub mod Rights
pub mod Judging
pub mod Joining
