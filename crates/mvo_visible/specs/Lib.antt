pub mod Words
pub mod Versions
pub mod Changes
pub mod Shown
pub mod Walked
pub mod Fronts
pub mod Laws
pub mod Causes
