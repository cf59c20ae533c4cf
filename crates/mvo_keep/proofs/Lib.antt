pub mod Neighbouring
pub mod Serving
