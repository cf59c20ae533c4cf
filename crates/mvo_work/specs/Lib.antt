pub mod History
pub mod Limits
pub mod Work
pub mod Writes
