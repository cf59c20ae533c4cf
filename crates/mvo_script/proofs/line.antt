pub mod Numerals
pub mod Splitting
pub mod Parts
pub mod Telling
pub mod Beginning
