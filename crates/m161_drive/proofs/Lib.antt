pub mod Finding
pub mod Driving
mod Keeping
pub mod Fitting
pub mod Keys
pub mod Sleeping
pub mod Drawn
pub mod Moved
pub mod Stretched
mod Rows
pub mod Passing
pub mod Planned
pub mod Continuing
