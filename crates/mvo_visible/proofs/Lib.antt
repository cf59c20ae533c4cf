pub mod Decides
pub mod First
pub mod Walks
pub mod Settled
pub mod Passed
pub mod Behind
pub mod Orders
pub mod Moves
