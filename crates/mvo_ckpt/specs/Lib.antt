pub mod Writes
pub mod Checkpoint
pub mod Ended
pub mod Walk
pub mod Laws
pub mod Building
