pub mod Distance
pub mod Promises
