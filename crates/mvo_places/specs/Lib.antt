pub mod Places
pub mod Rows
pub mod Falling
pub mod Fixed
pub mod Laws
