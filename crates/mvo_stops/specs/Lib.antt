pub mod Promise
pub mod Judging
pub mod Looking
pub mod Calls
pub mod Counting
