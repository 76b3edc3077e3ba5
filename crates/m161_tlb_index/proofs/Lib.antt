pub mod Chains
pub mod Matches
pub mod Rewriting
pub mod Start
