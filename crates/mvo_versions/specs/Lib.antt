pub mod Data
pub mod Changes
pub mod Runs
pub mod Loading
pub mod Skips
