pub mod Complement
pub mod Exactly
pub mod Readings
pub mod RoundTrip
pub mod Writings
