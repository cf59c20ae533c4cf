mod Seeking
mod Same
mod Leaving
mod Keeping
mod Showing
pub mod Fitting
pub mod Places
