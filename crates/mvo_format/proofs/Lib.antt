pub mod Versions
pub mod Said
pub mod Headers
pub mod Fronts
