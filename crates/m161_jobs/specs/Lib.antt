pub mod Trials
pub mod Answers
pub mod helpers
