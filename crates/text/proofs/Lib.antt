pub mod Parts
pub mod Digits
pub mod Rows
pub mod Promised
