pub mod Firsts
pub mod Unseen
pub mod Ahead
pub mod Returning
pub mod Answering
