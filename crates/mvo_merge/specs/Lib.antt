pub mod Merged
pub mod Moved
pub mod SoFar
pub mod Laws
