pub mod Copied
pub mod FreePlaces
pub mod Names
pub mod OneMore
pub mod Rest
pub mod Sound
pub mod Listed
pub mod FoundOutside
