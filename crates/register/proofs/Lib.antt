pub mod Settling
pub mod Passing
pub mod Owning
pub mod Again
