pub mod Shadowed
pub mod Laws
