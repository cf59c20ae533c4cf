pub mod Days
pub mod Ends
