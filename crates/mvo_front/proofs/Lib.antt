mod Answered
mod Gathered
mod Moves
mod Ran
mod Waiting
