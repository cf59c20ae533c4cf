pub mod Looking
pub mod Reached
pub mod Resting
pub mod Knowing
pub mod Telling
