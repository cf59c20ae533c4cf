pub mod Cut
pub mod Queue
