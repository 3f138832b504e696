pub mod Places
pub mod Promised
