pub mod Job
pub mod Named
pub mod Outcomes
pub mod Queue
pub mod Tickets
