pub mod Filling
pub mod Ends
pub mod Skipping
pub mod Finding
pub mod Holding
pub mod Effect
pub mod Sizes
