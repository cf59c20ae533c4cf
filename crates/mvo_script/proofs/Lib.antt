pub mod Turns
pub mod LineAnswers
