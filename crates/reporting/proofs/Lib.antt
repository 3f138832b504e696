pub mod Looking
pub mod Offsets
pub mod Answers
pub mod Promised
