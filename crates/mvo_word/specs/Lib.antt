pub mod Bits
pub mod Back
