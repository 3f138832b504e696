pub mod Packet
pub mod Reading
pub mod Promises
