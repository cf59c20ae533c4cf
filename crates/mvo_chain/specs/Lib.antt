pub mod Lends
pub mod Pieces
pub mod Slots
pub mod Sound
