pub mod Words
pub mod Forms
pub mod Split
pub mod Written
pub mod Same
pub mod Readable
