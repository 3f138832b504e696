pub mod Bits
pub mod Bytes
pub mod Fields
pub mod Rows
pub mod Spreading
pub mod Words
