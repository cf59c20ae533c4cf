pub mod Orders
pub mod Sizes
pub mod Kept
pub mod Bodies
pub mod Allowed
