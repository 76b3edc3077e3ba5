pub mod Question
pub mod System
pub mod Verdicts
pub mod Views
pub mod Shape
pub mod Laws
pub mod Run
pub mod Judged
