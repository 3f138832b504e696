pub mod Station
pub mod Hear
pub mod Booking
pub mod Promises
