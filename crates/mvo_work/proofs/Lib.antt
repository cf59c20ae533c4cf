pub mod Written
pub mod OneMore
pub mod Follows
