pub mod Ship
pub mod Promises
