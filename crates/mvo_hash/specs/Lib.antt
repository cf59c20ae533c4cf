pub mod Home
pub mod Links
pub mod Lists
pub mod Shards
pub mod Slots
pub mod Table
