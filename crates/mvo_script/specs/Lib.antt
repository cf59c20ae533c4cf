pub mod line
pub mod Begun
pub mod Bound
pub mod Fresh
pub mod Flushing
pub mod Events
pub mod Answers
pub mod Keeping
