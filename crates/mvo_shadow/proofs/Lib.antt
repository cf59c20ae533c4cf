pub mod Finds
pub mod Causes
pub mod States
pub mod Groups
pub mod Held
pub mod Runs
pub mod Back
