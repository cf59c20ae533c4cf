pub mod Seats
pub mod Directory
pub mod Chairs
pub mod Queue
pub mod Txns
pub mod Lends
pub mod Sound
pub mod Next
