pub mod Answers
pub mod Lists
pub mod Rules
pub mod Search
pub mod Unfinished
pub mod Views
pub mod helpers
