pub mod Zeros
pub mod Register
pub mod Checking
