pub mod Book
pub mod Watch
pub mod Pass
pub mod Sound
pub mod Planning
pub mod Promises
