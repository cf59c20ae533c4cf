pub mod Shown
pub mod Looks
pub mod Done
pub mod Held
pub mod Next
pub mod Works
