mod Ordering
mod Useful
pub mod Counting
pub mod Walking
pub mod Judging
pub mod Longer
pub mod Lengths
pub mod Members
mod Batches
mod Points
pub mod Slicing
pub mod Slices
mod Joining
pub mod Implying
