pub mod Opens
pub mod Gives
pub mod Files
pub mod Laws
