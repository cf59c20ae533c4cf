pub mod Rings
pub mod CoreSound
mod Collecting
pub mod StoreSound
mod Called
mod Jobs
pub mod Begun
pub mod Added
pub mod Counted
pub mod Starts
pub mod WholeSteps
mod Beginning
pub mod Booked
pub mod SentRows
pub mod Flushed
pub mod Forgetting
pub mod Pouring
pub mod Retiring
pub mod Lasting
mod Refused
mod Transacting
mod Asking
mod ReadingMany
mod OneCall
mod Opened
mod RollingBack
pub mod Upkeep
pub mod Passing
