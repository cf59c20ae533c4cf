pub mod Walked
pub mod Lasts
pub mod AllMet
pub mod Parts
mod Known
pub mod Rows
pub mod Staying
pub mod Naming
pub mod InOrder
pub mod Few
pub mod LastPuts
pub mod Taking
pub mod Slicing
