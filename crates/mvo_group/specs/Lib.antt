pub mod Data
pub mod Rules
pub mod Allowed
pub mod Body
pub mod Reading
