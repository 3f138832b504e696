pub mod Signs
pub mod Levels
