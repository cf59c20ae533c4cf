pub mod Entries
pub mod Between
pub mod Noted
