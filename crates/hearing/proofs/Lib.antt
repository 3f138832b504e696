pub mod Stations
pub mod Promised
pub mod Noting
pub mod Finding
pub mod Turning
pub mod Runs
pub mod Joined
pub mod Hears
