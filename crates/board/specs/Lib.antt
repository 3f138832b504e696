pub mod Face
pub mod Messages
pub mod Promises
