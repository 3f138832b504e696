pub mod Rows
pub mod Next
pub mod Announce
