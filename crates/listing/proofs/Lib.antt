pub mod Back
pub mod Fits
pub mod Said
pub mod Stored
pub mod Straight
