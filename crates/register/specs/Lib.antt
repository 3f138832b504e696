pub mod State
pub mod Answers
pub mod Register
pub mod Runs
