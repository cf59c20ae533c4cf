pub mod Rings
pub mod Opening
pub mod Watching
pub mod Receiving
