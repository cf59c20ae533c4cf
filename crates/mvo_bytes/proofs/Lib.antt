pub mod Fields
pub mod Loop
