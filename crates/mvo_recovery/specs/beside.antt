pub mod Seen
pub mod Laws
pub mod Runs
