pub mod Stuff
pub mod Marks
pub mod Filling
pub mod Sending
pub mod Taking
