pub mod Course
pub mod Resting
pub mod Known
pub mod Laws
