pub mod Windows
mod Keys
