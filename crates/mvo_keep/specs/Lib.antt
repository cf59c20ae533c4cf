pub mod Choosing
pub mod Due
pub mod Keeping
pub mod Serving
