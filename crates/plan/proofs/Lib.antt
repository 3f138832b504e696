pub mod Gaps
pub mod Comings
pub mod Windows
pub mod Promised
