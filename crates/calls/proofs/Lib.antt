pub mod Running
pub mod Joining
pub mod Doing
pub mod Promised
