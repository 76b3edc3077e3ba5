pub use Rattle.m161_explore.specs.Rules
pub use Rattle.m161_explore.specs.Lists
pub use Rattle.m161_explore.specs.Views
pub use Rattle.m161_explore.specs.Answers
pub mod Long
pub mod Table
