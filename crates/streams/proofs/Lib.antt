pub mod Between
pub mod Keeping
