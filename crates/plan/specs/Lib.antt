pub mod Plan
pub mod Times
pub mod Promises
