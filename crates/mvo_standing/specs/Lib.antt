pub mod Laws
pub mod Together
pub mod Scans
pub mod Telling
pub mod Beside
