pub mod Holes
pub mod Pieced
