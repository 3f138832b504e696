pub mod Signs
pub mod State
pub mod Message
pub mod Sheet
pub mod Promises
