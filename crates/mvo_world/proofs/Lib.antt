pub mod Chain
mod Ends
pub mod Standing
mod Forgetting
mod Closing
mod Finishing
mod WholeFinishing
pub mod WholeReaders
mod WholeOrder
mod WholeJustified
pub mod Collecting
mod Order
pub mod Justified
pub mod Moves
pub mod Runs
pub mod Sound
